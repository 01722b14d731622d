-- Outputs written one after the other.
use Rattle.std.proofs.Common.{ℕ, List, [], ◌∷◌, ◌++◌, length, get_or, take, drop, IsTrue, ◌+◌, ◌<◌, ◌≤◌, ◌≡◌, Result, Ok, Err, inl, inr, Some, ap, sym, refl, subst, ◌∙◌, append_assoc, arith}
use Rattle.std.specs.Result.{IsErrAnd}
use Rattle.std.proofs.lemmas.List.{map-append, take_all, take_more, take-append-drop}
use Rattle.std.proofs.lemmas.Result.{err_from_is_err_and}
use Rattle.pir_io.specs.declared.fault.IoFault.{IoFault}
use Rattle.pir_io.specs.declared.fault.IoFault.TheVariants.{Failed, NoMemory}
use Rattle.pir_io.specs.Files.{FilesSeen, Keeps}
use Rattle.tool_base.specs.declared.output.Output.{Output as Given}
use Rattle.pir_io.specs.Reading.{WritesFile}
use Rattle.tool_base.specs.Outputs.{Output, output_seen, outputs_seen, Wrote, WroteAll, StoppedAt, StoppedIn, LastFailedWrote, FailedIn, WritesOutputs}
use Rattle.pir_io.proofs.Kept.{still_told, rose_before}

-- the first outputs were written
pub record WroteFirst (old now : FilesSeen) (outputs : List Output) : Type 0 where
  pub tells : now.tells ≡ old.tells
  pub later : old.faults ≤ now.faults
  pub wrote : IsTrue old.tells → WroteAll outputs old now

-- what is kept first changes nothing
wrote_after : (a b c : FilesSeen) (output : Output) → Keeps a b → Wrote b c output → Wrote a c output
wrote_after a b c output keeps wrote = (wrote.0, λ other differs. wrote.1 other differs ∙ keeps other)

stopped_after : (a b c : FilesSeen) (output : Output) → Keeps a b → StoppedAt b c output → StoppedAt a c output
stopped_after a b c output keeps (inl same, others) = (inl (same ∙ keeps output.name), λ other differs. others other differs ∙ keeps other)
stopped_after a b c output keeps (inr part, others) = (inr part, λ other differs. others other differs ∙ keeps other)

-- one more output was written, or writing stopped there
pub wrote_more : (outputs : List Output) (a b c : FilesSeen) (output : Output) → WroteAll outputs a b → Wrote b c output → WroteAll (outputs ++ output ∷ []) a c
wrote_more [] a b c output keeps wrote = (c, wrote_after a b c output keeps wrote, λ name. refl)
wrote_more (first ∷ outputs) a b c output all wrote = (all.0, all.1, wrote_more outputs all.0 b c output all.2 wrote)

pub stopped_more : (outputs rest : List Output) (a b c : FilesSeen) (output : Output) → WroteAll outputs a b → StoppedAt b c output → StoppedIn (outputs ++ output ∷ rest) a c
stopped_more [] rest a b c output keeps stopped = inl (stopped_after a b c output keeps stopped)
stopped_more (first ∷ outputs) rest a b c output all stopped = inr (all.0, all.1, stopped_more outputs rest all.0 b c output all.2 stopped)

pub failed_more : (outputs rest : List Output) (a b c : FilesSeen) (output : Output) → WroteAll outputs a b → LastFailedWrote c output.name → StoppedAt b c output → FailedIn (outputs ++ output ∷ rest) a c
failed_more [] rest a b c output keeps failed stopped = inl (failed, stopped_after a b c output keeps stopped)
failed_more (first ∷ outputs) rest a b c output all failed stopped = inr (all.0, all.1, failed_more outputs rest all.0 b c output all.2 failed stopped)

-- a loop over given outputs, at its place i
module _ (old mid new : FilesSeen) (given : List Given) (i : ℕ) (d : Given) (within : i < length given) (before : WroteFirst old mid (outputs_seen (take i given))) where
  abbrev item : Output
  item = output_seen (get_or given i d)

  front : outputs_seen (take (i + 1) given) ≡ outputs_seen (take i given) ++ item ∷ []
  front = ap outputs_seen (take_more given i d within) ∙ map-append output_seen (take i given) (get_or given i d ∷ [])

  whole : outputs_seen given ≡ outputs_seen (take i given) ++ item ∷ outputs_seen (drop (i + 1) given)
  whole =
      ap outputs_seen (sym (take-append-drop (i + 1) given)) ∙ map-append output_seen (take (i + 1) given) (drop (i + 1) given)
      ∙ ap (λ (l : List Output). l ++ outputs_seen (drop (i + 1) given)) front
      ∙ append_assoc (outputs_seen (take i given)) (item ∷ []) (outputs_seen (drop (i + 1) given))

  told_mid : IsTrue old.tells → IsTrue mid.tells
  told_mid told = still_told old mid before.tells told

  -- the output at this place was written
  pub written_here : {T : Type 0} {t : T} → WritesFile mid new item.name item.bytes (Ok t) → WroteFirst old new (outputs_seen (take (i + 1) given))
  written_here w = record {
    tells = w.tells ∙ before.tells;
    later = omega arith;
    wrote = λ told. subst (λ l. WroteAll l old new) (sym front) (wrote_more (outputs_seen (take i given)) old mid new item (before.wrote told) (w.ok (told_mid told), w.others (told_mid told)));
  }

  stopped_at : {T : Type 0} (e : IoFault) → WritesFile {T = T} mid new item.name item.bytes (Err e) → IsTrue old.tells → StoppedAt mid new item
  stopped_at e w told = (w.err (told_mid told), w.others (told_mid told))

  failed_at : {T : Type 0} → WritesFile {T = T} mid new item.name item.bytes (Err Failed) → IsTrue old.tells → FailedIn (outputs_seen given) old new
  failed_at w told =
      subst (λ l. FailedIn l old new) (sym whole) (failed_more (outputs_seen (take i given)) (outputs_seen (drop (i + 1) given)) old mid new item (before.wrote told) ((w.failed refl).last (told_mid told)) (stopped_at Failed w told))

  -- writing stopped at this place
  writes_stopped : {T U : Type 0} (e : IoFault) → WritesFile {T = T} mid new item.name item.bytes (Err e) → WritesOutputs {T = U} old new (outputs_seen given) (Err e)
  writes_stopped Failed w = record {
    tells = w.tells ∙ before.tells;
    later = omega arith;
    ok = λ told. tt;
    rose = λ h. rose_before old.faults mid.faults new.faults before.later (w.failed refl).rose;
    failed = λ told h. failed_at w told;
    no_memory = λ told h. absurd (cc);
  }
  writes_stopped NoMemory w = record {
    tells = w.tells ∙ before.tells;
    later = omega arith;
    ok = λ told. tt;
    rose = λ h. absurd (cc);
    failed = λ told h. absurd (cc);
    no_memory = λ told h.
        subst (λ l. StoppedIn l old new) (sym whole) (stopped_more (outputs_seen (take i given)) (outputs_seen (drop (i + 1) given)) old mid new item (before.wrote told) (stopped_at NoMemory w told));
  }

  pub stopped_here : {T U : Type 0} (e : IoFault) (result : Result U IoFault) → WritesFile {T = T} mid new item.name item.bytes (Err e) → IsErrAnd result (λ y. y ≡ e) → WritesOutputs old new (outputs_seen given) result
  stopped_here e result w is =
      let found = err_from_is_err_and result is in
      let same : result ≡ Err e = found.1 ∙ ap (λ y. Err y) found.2 in
      subst (λ r. WritesOutputs old new (outputs_seen given) r) (sym same) (writes_stopped e w)

-- where writing failed it stopped
pub failed_is_stopped : (outputs : List Output) (a c : FilesSeen) → FailedIn outputs a c → StoppedIn outputs a c
failed_is_stopped [] a c failed = absurd failed
failed_is_stopped (output ∷ outputs) a c (inl failed) = inl failed.1
failed_is_stopped (output ∷ outputs) a c (inr later) = inr (later.0, later.1, failed_is_stopped outputs later.0 c later.2)

-- where all was written, writing stopped at the end of the last output
pub all_is_stopped : (outputs : List Output) (a c : FilesSeen) → 0 < length outputs → WroteAll outputs a c → StoppedIn outputs a c
all_is_stopped [] a c some all = omega arith
all_is_stopped (first ∷ []) a c some all =
    let whole : c.content first.name ≡ Some (take (length first.bytes) first.bytes) =
    all.2 first.name ∙ all.1.0 ∙ ap (λ l. Some l) (sym (take_all (length first.bytes) first.bytes (omega arith))) in
    inl (inr (length first.bytes, whole), λ other differs. all.2 other ∙ all.1.1 other differs)
all_is_stopped (first ∷ output ∷ outputs) a c some all = inr (all.0, all.1, all_is_stopped (output ∷ outputs) all.0 c (omega arith) all.2)
