-- SETUP, as it is read for a database's set, and the keys in it.
use Rattle.std.proofs.Common.{ℕ, List, [], ◌≡◌, ◌≢◌, ◌∙◌, ◌⊎◌, IsTrue, true, false, Option, Some, None, option_map, Result, Ok, Err, IfOk, inl, inr, refl, sym, ap, subst}
use Rattle.pir_io.specs.declared.fault.IoFault.TheVariants.{Failed}
use Rattle.pir_io.specs.Files.{FilesSeen, content_of}
use Rattle.pir_io.specs.Reading.{OnlyRead, FailedReading}
use Rattle.pir_io.proofs.Kept.{same_content, still_told, then_only, rose_before}
use Rattle.spiral_sets.specs.declared.param_set.ParamSet.{ParamSet}
use Rattle.spiral_model.specs.Sets.{IsSet, has_keys}
use Rattle.spiral_model.specs.Bodies.{CipherBody}
use Rattle.spiral_model.specs.Keys.{SetKeys, keys_in}
use Rattle.spiral_frames.specs.FrameChecks.{one_refusal}
use Rattle.regev_code.specs.KeyShapes.{AreKeysFor}
use Rattle.tool_files.specs.declared.input.InputError.{InputError}
use Rattle.tool_files.specs.declared.input.InputError.TheVariants.{File, Frame, NoMemory}
use Rattle.tool_files.specs.Inputs.{SpellsSetup, SpellsKeys}
use Rattle.tool_files.specs.Reading.{ReadsMessage}
use Rattle.tool_files.specs.Emptiness.{FindsEmpty}
use Rattle.tool_files.specs.Given.{IsRead, IsGiven}
use Rattle.tool_files.specs.Answer.{set_of_setup}

-- ---- reading it

-- what was read behind a call that only read
pub read_behind : {T : Type 0} (kinds : ℕ) (Is : List ℕ → T → Type 0) (old mid new : FilesSeen) (name : List ℕ) (result : Result T InputError)
    → OnlyRead old mid → ReadsMessage kinds Is mid new name result → ReadsMessage kinds Is old new name result
read_behind kinds Is old mid new name result before reads = record {
  only = then_only old mid new before reads.only;
  file = λ is.
      let failed : FailedReading mid new name = reads.file is in
      record { rose = rose_before old.faults mid.faults new.faults before.later failed.rose; last = λ told. failed.last (still_told old mid before.tells told) };
  found = λ told. subst (λ (x : List ℕ). IfOk result (λ m. Is x m)) (same told) (reads.found (still_told old mid before.tells told));
  cause = λ error is told. subst (λ (x : List ℕ). one_refusal kinds x ≡ Some error) (same told) (reads.cause error is (still_told old mid before.tells told));
  none = λ error is told. subst (λ (x : List ℕ). (m : _) → Is x m → ⊥) (same told) (reads.none error is (still_told old mid before.tells told));
}
  where
    same : IsTrue old.tells → content_of mid name ≡ content_of old name
    same told = same_content old mid (before.keeps told) name

module _ (set : ParamSet) (old new : FilesSeen) (name : List ℕ) where
  -- the keys were read,
  pub keys_read : (keys : CipherBody) → ReadsMessage 2 SpellsSetup old new name (Ok keys) → ReadsMessage 2 (SpellsKeys set) old new name (Ok (Some keys))
  keys_read keys reads = record {
    only = reads.only;
    file = λ e. absurd (cc);
    found = λ told. reads.found told;
    cause = λ error e. absurd (cc);
    none = λ error e. absurd (cc);
  }

  -- or there are none to read;
  pub nothing_read : has_keys set ≡ false → FindsEmpty old new name (Ok true) → ReadsMessage 2 (SpellsKeys set) old new name (Ok None)
  nothing_read hasn't finds = record {
    only = finds.only;
    file = λ e. absurd (cc);
    found = λ told. (hasn't, finds.empty told refl);
    cause = λ error e. absurd (cc);
    none = λ error e. absurd (cc);
  }

  -- where it isn't known whether there are any, since that couldn't be read
  pub not_known : FindsEmpty old new name (Err Failed) → ReadsMessage 2 (SpellsKeys set) old new name (Err File)
  not_known finds = record {
    only = finds.only;
    file = λ _. finds.failed refl;
    found = λ _. tt;
    cause = λ error e. absurd (cc);
    none = λ error e. absurd (cc);
  }

  -- the set has keys, or there are bytes
  abbrev Wanted : Type 0
  Wanted = IsTrue old.tells → (has_keys set ≡ true) ⊎ (content_of old name ≢ [])

  no_keys : (bytes : List ℕ) → (has_keys set ≡ true) ⊎ (bytes ≢ []) → ((keys : CipherBody) → SpellsSetup bytes keys → ⊥)
      → (setup : Option CipherBody) → SpellsKeys set bytes setup → ⊥
  no_keys bytes wanted none (Some keys) is = none keys is
  no_keys bytes (inl has) none None is = let differ : true ≡ false = sym has ∙ is.0 in absurd (cc)
  no_keys bytes (inr some) none None is = some is.1

  -- Keys that were wanted weren't read.
  pub keys_unread : (error : InputError) → Wanted → ReadsMessage 2 SpellsSetup old new name (Err error) → ReadsMessage 2 (SpellsKeys set) old new name (Err error)
  keys_unread File wanted reads =
      record { only = reads.only; file = λ _. reads.file refl; found = λ _. tt; cause = λ error e. absurd (cc); none = λ error e. absurd (cc) }
  keys_unread (Frame refusal) wanted reads = record {
    only = reads.only;
    file = λ e. absurd (cc);
    found = λ _. tt;
    cause = λ error e. reads.cause error (cc);
    none = λ error e told. no_keys (content_of old name) (wanted told) (reads.none refusal refl told);
  }
  keys_unread NoMemory wanted reads =
      record { only = reads.only; file = λ e. absurd (cc); found = λ _. tt; cause = λ error e. absurd (cc); none = λ error e. absurd (cc) }

-- It was read for that set.
pub read_for : (s t : ParamSet) (old new : FilesSeen) (name : List ℕ) (result : Result (Option CipherBody) InputError) → s ≡ t
    → ReadsMessage 2 (SpellsKeys s) old new name result → ReadsMessage 2 (SpellsKeys t) old new name result
read_for s t old new name result same reads = subst (λ (u : ParamSet). ReadsMessage 2 (SpellsKeys u) old new name result) same reads

-- ---- the keys that are given

-- What was read is given, where it is of the database's set.
pub given : (s : ParamSet) (setup : Option CipherBody) → IsRead s setup → s ≡ set_of_setup s setup → IsGiven s setup
given s (Some keys) is same = (sym same, is)
given s None is same = is

-- In any case what was read is of a set.
pub known_set : (s : ParamSet) (setup : Option CipherBody) → IsSet s → IsRead s setup → IsSet (set_of_setup s setup)
known_set s (Some keys) known is = is.known
known_set s None known is = known

-- A query is made ready with the keys that are given.
pub keys_for : (s : ParamSet) (setup : Option CipherBody) → IsGiven s setup → AreKeysFor s (option_map keys_in setup)
unfolding keys_in
keys_for s (Some keys) is = λ _. is.0
keys_for s None is = is

-- So it is with the keys that the setup carries, brought into product form.
pub keys_given : (s : ParamSet) (setup : Option CipherBody) (body : CipherBody) (keys : SetKeys) → IsGiven s setup → setup ≡ Some body → keys ≡ keys_in body
    → AreKeysFor s (Some keys)
keys_given s setup body keys is some made =
    subst (λ (o : Option SetKeys). AreKeysFor s o) (ap (option_map keys_in) some ∙ ap (λ (k : SetKeys). Some k) (sym made)) (keys_for s setup is)
