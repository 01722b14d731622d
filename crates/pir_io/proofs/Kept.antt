-- What is only read stays, and where a count rose, over one call after another.
use Rattle.std.proofs.Common.{ℕ, List, [], IsTrue, ◌≡◌, ◌≤◌, unwrap_or, inl, inr, ap, sym, ◌∙◌, subst, arith}
use Rattle.std.proofs.lemmas.Bool.{cases_lt}
use Rattle.pir_io.specs.Files.{FilesSeen, Keeps, content_of}
use Rattle.pir_io.specs.Faults.{Rose}
use Rattle.pir_io.specs.Reading.{OnlyRead}

-- what is kept reads the same
pub same_content : (old new : FilesSeen) → Keeps old new → (name : List ℕ) → content_of new name ≡ content_of old name
same_content old new keeps name = ap (λ c. unwrap_or c []) (keeps name)

-- files that told their contents tell them still
pub still_told : (old new : FilesSeen) → new.tells ≡ old.tells → IsTrue old.tells → IsTrue new.tells
still_told old new same told = subst IsTrue (sym same) told

-- only reading, twice
pub then_only : (old mid new : FilesSeen) → OnlyRead old mid → OnlyRead mid new → OnlyRead old new
then_only old mid new a b = record {
  tells = b.tells ∙ a.tells;
  later = omega arith;
  keeps = λ told. λ name. b.keeps (still_told old mid a.tells told) name ∙ a.keeps told name;
}

-- a count that rose from a later value rose
pub rose_before : (before mid now : ℕ) → before ≤ mid → Rose mid now → Rose before now
rose_before before mid now le (inl higher) = inl (omega arith)
rose_before before mid now le (inr last) = inr last
