-- `report::put_number` meets its contract: the digits that `itoa` makes are the number's decimal text.
use Rattle.std.proofs.Common.{◌+◌, ◌≤◌, length, arith, ap, ◌∙◌, sym}
use Rattle.lent.specs.Lent.{over}
use Rattle.report.specs.Printed.{decimal}
use Rattle.report.specs.Sizes.{most_digits}
use Rattle.report.proofs.Decimal.{decimal_text}
use Rattle.report.proofs.Written.{written}
use Rattle.report.proofs.put_number.Goals as goal

pub returns : goal.returns
returns c =
    let digits = c.format-digits.ensures.text ∙ sym (decimal_text c.args.n c.ranges.n.fits) in
    let room = c.requires in
    let fits : length (decimal c.args.n) ≤ most_digits = rw digits at c.format-digits.ensures.fits in
    let put = c.put.ensures ∙ ap (over c.args.out.now c.args.at) (c.as_bytes.ensures.value ∙ digits) in
    (written (omega arith) (ap (λ d. c.args.at + length d) digits) put, omega (arith, c.format-digits.ensures.fits))
