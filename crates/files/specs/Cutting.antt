-- Document 02, CR 5: what is promised of cutting a file into records, over the width of a channel and whatever is done with a record.
use Rattle.std.specs.Prelude.{ℕ, suc, ◌<◌, ◌≤◌, ◌≡◌, List, [], ◌∷◌, ◌++◌, length, Ok}
use Rattle.lent.specs.Bytes.{Every, Byte}
use Rattle.records.specs.Record.{Shape, record_length, number_in}
use Rattle.records.specs.Writer.{last_number}
use Rattle.files.specs.Reader.{Reader, Ended, Reading, OtherNumber, Fits, wanted, outcome, Stopped, More, Whole, read_outcome}
use Rattle.files.specs.Caller.{Caller, Hears, starts, hand, together, heard_of, notes, by_hand, after_all}

-- "The file may arrive cut at any byte with the same answers": two ways to cut one file leave the caller with the same, all that was heard
-- among it.
abbrev pub CutAnywhere : Type 1
CutAnywhere =
    (S I : Type 0) (does : Hears S I) (c : Caller S I) (ps qs : List (List ℕ)) →
    Fits c.reader → together ps ≡ together qs → hand does c ps ≡ hand does c qs

-- A reading that has not ended wants at least a byte.
abbrev pub AlwaysWants : Type 0
AlwaysWants = (sh : Shape) (i : ℕ) (h : List ℕ) → Fits (Reading sh i h) → 0 < wanted (Reading sh i h)

-- Records of a file of which k came before: each has its length, and its number is one above the last.
abbrev pub Numbered : Shape → ℕ → List (List ℕ) → Type 0
Numbered sh k [] = Unit {0}
Numbered sh k (g ∷ gs) = (length g ≡ record_length sh) × (number_in g ≡ suc k) × Numbered sh (suc k) gs

-- Such records put together, and cut anywhere, are read as these records, with no refusal;
abbrev pub ReadAsJoined : Type 0
ReadAsJoined =
    (sh : Shape) (gs ps : List (List ℕ)) → Numbered sh 0 gs → together ps ≡ together gs →
    heard_of (hand notes (starts tt (Reading sh 0 [])) ps) ≡ record { heard = gs; at_end = Ok tt }

-- and the other way: a file at whose end 0 is answered is such records put together, those that were read.
abbrev pub JoinedAsRead : Type 0
JoinedAsRead =
    (sh : Shape) (ps : List (List ℕ)) → let h = heard_of (hand notes (starts tt (Reading sh 0 [])) ps) in
    h.at_end ≡ Ok tt → Numbered sh 0 h.heard × (together h.heard ≡ together ps)

-- What is heard of a refusal that has ended the reading.
abbrev pub stopped_by : {S I : Type 0} → Hears S I → S → Reader → List I
stopped_by does s (Ended e) = does.stopped s e
stopped_by does s (Reading sh i h) = []

-- Whatever is done with a record, the records are those noted, one after the other, and nothing that is done with one ends the reading or
-- changes it.
pub record DoneByHand {S I : Type 0} (does : Hears S I) (sh : Shape) (s : S) (c : Caller S I) (n : Caller Unit (List ℕ)) : Type 0 where
  pub reader : c.reader ≡ n.reader
  pub state : c.state ≡ after_all does sh s n.heard
  pub heard : c.heard ≡ by_hand does sh s n.heard ++ stopped_by does c.state c.reader

abbrev pub AsByHand : Type 1
AsByHand =
    (S I : Type 0) (does : Hears S I) (s : S) (sh : Shape) (ps : List (List ℕ)) →
    let r = Reading sh 0 [] in DoneByHand does sh s (hand does (starts s r) ps) (hand notes (starts tt r) ps)

-- "Sample number not one above the last": above 4294967295 there is none of 32 bits, so at that index each is refused, 0 too; none wraps.
abbrev pub NoWrap : Type 0
NoWrap = (sh : Shape) (h : List ℕ) → Every Byte h → 4 ≤ length h → outcome sh last_number h ≡ Stopped (OtherNumber last_number)

-- Who lends fewer bytes than wanted knows that no record was finished, and who lends as many knows that one was, or that the reading has ended.
pub record Knows (r : Reader) (piece : List ℕ) : Type 0 where
  pub fewer : length piece < wanted r → (sh : Shape) (g : List ℕ) → read_outcome r piece ≡ Whole sh g → ⊥
  pub enough : 0 < wanted r → wanted r ≤ length piece → read_outcome r piece ≡ More → ⊥

abbrev pub CallerKnows : Type 0
CallerKnows = (r : Reader) (piece : List ℕ) → Fits r → Knows r piece
