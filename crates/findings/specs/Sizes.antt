-- How large what is found gets, so that it fits in its bytes. A reader of the rules can pass this file by.
use Rattle.std.specs.Prelude.{◌<◌}
use Rattle.differential.specs.Sizes.{AllSized}
use Rattle.findings.specs.declared.Findings.{Findings}

pub record FindingsSized (f : Findings) : Type 0 where
  pub three_phases : f.operating < 8
  pub three_quadrilaterals : f.quadrilaterals < 8
  pub compared : AllSized f.comparisons
