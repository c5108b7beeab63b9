-- Document 01, "Mho loops" (source document 002, Equation 1): the six loops, n and m of each, and when one asserts at a reach.
use Rattle.std.specs.Prelude.{[], ◌∷◌, Bool, false, cond, ℕ, ℤ, pos, ◌*ℤ◌}
use Rattle.std.specs.Int.Signed.{lt_z, le_z}
use Rattle.whole.specs.Bits.{bits}
use Rattle.plane.specs.declared.Phasor.{Phasor}
use Rattle.plane.specs.declared.Phases.{Phases}
use Rattle.plane.specs.Plane.{plus, minus, times, rounded, minus_j, dot}
use Rattle.distance.specs.declared.mho.Loop.{Loop}
use Rattle.distance.specs.declared.mho.SixLoops.{SixLoops}
use Rattle.distance.specs.declared.mho.Ratio.{Ratio}
use Rattle.direction.specs.Sequence.{a, a², turned, positive_sequence}

-- ---- the loops

-- Ia+Ib+Ic
unfoldable pub residual : Phases Phasor → Phasor
residual i = plus (plus i.a i.b) i.c

-- "each component of the k product is rounded by 1000"
unfoldable pub k_product : Phasor → Phases Phasor → Phasor
k_product k i = rounded 1000 (times k (residual i))

-- A ground loop, from the phase's V and I, the k product and P: "V = Va, I = Ia + k(Ia+Ib+Ic)"
unfoldable pub ground_loop : Phasor → Phasor → Phasor → Phasor → Loop
ground_loop v i k p = record { v = v; i = plus i k; vp = p }

-- The loop of phases x and y, from V and I of both: "V = Va-Vb, I = Ia-Ib", and "minus j times these"
unfoldable pub phase_loop : Phasor → Phasor → Phasor → Phasor → Phasor → Loop
phase_loop vx vy ix iy p = record { v = minus vx vy; i = minus ix iy; vp = minus_j p }

-- The six from the k product, P, aP and a²P: "P = 3V1 for AG, a²P for BG, aP for CG", and "aP for AB, P for BC, a²P for CA"; "CA is c
-- minus a"
abbrev pub six_of : Phases Phasor → Phases Phasor → Phasor → Phasor → Phasor → Phasor → SixLoops
six_of v i k p ap a²p =
    record {
      ag = ground_loop v.a i.a k p;
      bg = ground_loop v.b i.b k a²p;
      cg = ground_loop v.c i.c k ap;
      ab = phase_loop v.a v.b i.a i.b ap;
      bc = phase_loop v.b v.c i.b i.c p;
      ca = phase_loop v.c v.a i.c i.a a²p;
    }

-- The six of end 1, "where aP and a²P are rounded first"
unfoldable pub loops_of : Phasor → Phases Phasor → Phases Phasor → SixLoops
loops_of k v i = six_of v i (k_product k i) (positive_sequence v) (turned a (positive_sequence v)) (turned a² (positive_sequence v))

-- ---- n and m, which no reach enters

-- "n = Re(V Vp*), m = Re(Z I Vp*)"
abbrev pub ratio_of : Phasor → Loop → Ratio
ratio_of z l = record { n = dot l.v l.vp; m = dot (times z l.i) l.vp }

-- ---- the rule, over any reach

-- "the loop asserts exactly when m > 0 and 1000000 n <= r m"
unfoldable pub mho : ℤ → ℤ → ℤ → Bool
mho r n m = cond (lt_z (pos 0) m) (le_z (pos 1000000 *ℤ n) (r *ℤ m)) false

-- A loop with this n and m, at reach r
unfoldable pub asserts : ℤ → Ratio → Bool
asserts r q = mho r q.n q.m

-- The six loop bits at reach r: "AG 1, BG 2, CG 4, AB 8, BC 16, CA 32"
unfoldable pub loop_bits : Phasor → ℤ → SixLoops → ℕ
loop_bits z r l =
    bits
    (asserts r (ratio_of z l.ag) ∷ asserts r (ratio_of z l.bg) ∷ asserts r (ratio_of z l.cg)
    ∷ asserts r (ratio_of z l.ab) ∷ asserts r (ratio_of z l.bc) ∷ asserts r (ratio_of z l.ca) ∷ [])
