-- Document 02, CR 5: what a caller hears who hands a file over in pieces, each piece handed again until all of it is taken. It is over what the
-- caller does with a whole record: feed it to the relay, or only note it.
use Rattle.std.specs.Prelude.{ℕ, zero, suc, List, [], ◌∷◌, ◌++◌, length, drop}
use Rattle.answers.specs.Answers.{Answer}
use Rattle.records.specs.Record.{Shape}
use Rattle.files.specs.Reader.{Ending, Reader, Ended, Reading, Outcome, Stopped, More, Whole, wanted, in_hand, outcome, after, end_answer}

-- Whatever else the caller has, S; the reader; and what was heard so far, each an I, the oldest first.
pub record Caller (S I : Type 0) : Type 0 where
  pub state : S
  pub reader : Reader
  pub heard : List I

-- What is done with a whole record, and what is heard of it; and what is heard of a refusal that ends the reading.
pub record Hears (S I : Type 0) : Type 0 where
  pub whole : S → Shape → List ℕ → S × I
  pub stopped : S → Ending → List I

module _ {S I : Type 0} (does : Hears S I) where
  -- A piece that does not finish a record is not heard.
  abbrev pub hears : S → List I → Reader → Outcome → Caller S I
  hears s hs r (Stopped e) = record { state = s; reader = r; heard = hs ++ does.stopped s e }
  hears s hs r More = record { state = s; reader = r; heard = hs }
  hears s hs r (Whole sh g) = record { state = (does.whole s sh g).0; reader = r; heard = hs ++ ((does.whole s sh g).1 ∷ []) }

  -- One call of read. A caller stops where nothing is wanted: the refusal that ended the reading is heard once.
  abbrev pub call_on : S → List I → Reader → List ℕ → Caller S I
  call_on s hs (Ended e) piece = record { state = s; reader = Ended e; heard = hs }
  call_on s hs (Reading sh i h) piece = let g = in_hand sh h piece in hears s hs (after sh i g (outcome sh i g)) (outcome sh i g)

  abbrev pub call : Caller S I → List ℕ → Caller S I
  call c piece = call_on c.state c.heard c.reader piece

-- Whoever calls, with what is wanted and one call given: a piece handed over, and what is left of it again. In as many turns as it has bytes
-- all of it is taken.
module _ {C : Type 0} (wants : C → ℕ) (calls : C → List ℕ → C) where
  unfoldable pub hand_turns : ℕ → C → List ℕ → C
  hand_turns zero c piece = c
  hand_turns (suc n) c [] = c
  hand_turns (suc n) c (b ∷ piece) = hand_turns n (calls c (b ∷ piece)) (drop (wants c) (b ∷ piece))

  -- A file in pieces.
  unfoldable pub hand_all : C → List (List ℕ) → C
  hand_all c [] = c
  hand_all c (p ∷ ps) = hand_all (hand_turns (length p) c p) ps

abbrev pub wants : {S I : Type 0} → Caller S I → ℕ
wants c = wanted c.reader

abbrev pub hand : {S I : Type 0} → Hears S I → Caller S I → List (List ℕ) → Caller S I
hand does c ps = hand_all wants (call does) c ps

-- The caller at the start of a reading.
abbrev pub starts : {S I : Type 0} → S → Reader → Caller S I
starts s r = record { state = s; reader = r; heard = [] }

-- Pieces, or records, put together.
unfoldable pub together : List (List ℕ) → List ℕ
together [] = []
together (p ∷ ps) = p ++ together ps

-- What is heard in all: of the records, and then what `end` answers.
pub record Heard (I : Type 0) : Type 0 where
  pub heard : List I
  pub at_end : Answer

abbrev pub heard_of : {S I : Type 0} → Caller S I → Heard I
heard_of c = record { heard = c.heard; at_end = end_answer c.reader }

-- Records only noted.
abbrev pub notes : Hears Unit (List ℕ)
notes = record { whole = λ s sh g. (tt, g); stopped = λ s e. [] }

-- Records done one after the other, by hand: what is heard of them, and the state afterwards.
unfoldable pub by_hand : {S I : Type 0} → Hears S I → Shape → S → List (List ℕ) → List I
by_hand does sh s [] = []
by_hand does sh s (g ∷ gs) = (does.whole s sh g).1 ∷ by_hand does sh (does.whole s sh g).0 gs

unfoldable pub after_all : {S I : Type 0} → Hears S I → Shape → S → List (List ℕ) → S
after_all does sh s [] = s
after_all does sh s (g ∷ gs) = after_all does sh (does.whole s sh g).0 gs
