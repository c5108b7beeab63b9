-- No second result meets a claim: each says by one equation what the number is, and by one what is left.
use native.Mathlib.Omega.{arith}
use Rattle.answers.proofs.Numbers.{number_small}
use Rattle.claims.specs.One.{OneProposed, OneConfirmed, OneReadBack, OneDecided, OneFed, OneDecidedNumbers, NumberAndPlace}

pub one_proposed : OneProposed
one_proposed s e n n' after after' p q = (cc, cc)

pub one_confirmed : OneConfirmed
one_confirmed s e n n' after after' p q = (cc, cc)

pub one_read_back : OneReadBack
one_read_back s out n n' after after' p q = (cc, cc)

pub one_decided : OneDecided
one_decided s b out n n' after after' p q = (cc, cc)

pub one_fed : OneFed
one_fed s f out n n' s₁ s₁' out₁ out₁' p q = (cc, cc, cc)

pub one_decided_numbers : OneDecidedNumbers
one_decided_numbers s w out a a' after after' p q = (cc, cc)

pub number_and_place : NumberAndPlace
number_and_place a = let h = number_small a in (omega arith, omega arith)
