-- The product fits before it is rounded.
use mathlib.Core.Path.{refl}
use lib.Signed.{lt_z_yes}
use Rattle.whole.proofs.Size.{lit, wider}
use Rattle.plane.proofs.Bounds.{inside_factor, inside_wider}
use Rattle.distance.specs.Mho.{k_product}
use Rattle.distance.proofs.Sizes.{k_product_inside}
use Rattle.distance.proofs.mho.k_product.Goals as goal

pub rounded-requires : goal.rounded-requires
rounded-requires c =
    let k = c.requires.0 in
    (lt_z_yes tt, rw c.times.ensures (inside_wider (inside_factor k.real k.imag c.residual.ensures.1) tt), wider (lit _) tt)

pub returns : goal.returns
unfolding k_product
returns c = rw (c.rounded.ensures, c.times.ensures, c.residual.ensures.0) (refl, k_product_inside c.requires.0 c.requires.1)
