-- How large the quantities of this crate get, so that nothing exceeds 64 bits. No rule of document 01 is here: a reader of the rules can pass
-- this file by. proofs/Sizes.antt shows each.
use Rattle.std.specs.Prelude.{ℕ, ◌^◌}
use Rattle.whole.specs.Sizes.{Within}
use Rattle.plane.specs.declared.Phasor.{Phasor}
use Rattle.plane.specs.Sizes.{Inside}
use Rattle.settings.specs.Table.{most_k_real, most_k_imaginary}
use Rattle.direction.specs.Sizes.{polarising_size}
use Rattle.distance.specs.declared.mho.Loop.{Loop}
use Rattle.distance.specs.declared.mho.SixLoops.{SixLoops}
use Rattle.distance.specs.declared.mho.Ratio.{Ratio}

-- k
pub record Compensates (k : Phasor) : Type 0 where
  pub real : Within most_k_real k.re
  pub imag : Within most_k_imaginary k.im

-- Ia+Ib+Ic, and the k product
abbrev pub residual_size : ℕ
residual_size = 126000

abbrev pub k_product_size : ℕ
k_product_size = 189000

-- V and I of a loop
abbrev pub loop_voltage_size : ℕ
loop_voltage_size = 84000

abbrev pub loop_current_size : ℕ
loop_current_size = 231000

-- n and m of one
abbrev pub numerator_size : ℕ
numerator_size = 2 ^ 36

abbrev pub denominator_size : ℕ
denominator_size = 2 ^ 52

-- a loop
pub record LoopInside (l : Loop) : Type 0 where
  pub voltage : Inside loop_voltage_size l.v
  pub current : Inside loop_current_size l.i
  pub polarising : Inside polarising_size l.vp

pub record SixInside (l : SixLoops) : Type 0 where
  pub ag_inside : LoopInside l.ag
  pub bg_inside : LoopInside l.bg
  pub cg_inside : LoopInside l.cg
  pub ab_inside : LoopInside l.ab
  pub bc_inside : LoopInside l.bc
  pub ca_inside : LoopInside l.ca

-- n and m of a loop
pub record RatioInside (q : Ratio) : Type 0 where
  pub numerator : Within numerator_size q.n
  pub denominator : Within denominator_size q.m
