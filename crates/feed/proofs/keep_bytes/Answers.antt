-- `feed::keep_bytes` meets its contract: what the code took out of the frame's bytes are its numbers.
use Rattle.std.proofs.Common.{ℕ, ◌-◌, ◌≡◌, List, take, length}
use mathlib.Core.Path.{ap, ◌∙◌}
use native.Mathlib.Nat.{sub-zero}
use lib.IntN.{ℤ}
use Rattle.samples.specs.Window.{numbers_of}
use Rattle.samples.proofs.Bytes.{held}
use Rattle.feed.proofs.Cases.{frame_numbers}
use Rattle.feed.proofs.keep_bytes.Goals as goal

pub returns : goal.returns
returns c =
    let m : ℕ = c.args.channels in
    let f : List ℕ = c.args.frame.now in
    let xs : List ℤ = c.numbers.new.samples in
    let same : take (m - 0) xs ≡ numbers_of f = ap (λ (i : ℕ). take i xs) (sub-zero m) ∙ frame_numbers m f xs c.requires.2 c.requires.1 c.numbers.ensures in
    let many : length (take (m - 0) xs) ≡ m = ap length same ∙ held m f c.requires.2 in
    (rw (many, same) at c.keep.ensures.0, rw (many, same) at c.keep.ensures.1)
