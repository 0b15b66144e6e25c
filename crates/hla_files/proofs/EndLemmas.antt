-- A line that is told, and bytes that are kept.
use Rattle.std.proofs.Common.{◌≡◌, arith, ℕ, Bool, true, false, ◌||◌, not, List, [], length, take, Option, None, Some, Result, Ok, Err, IfOk, OnOk, OnErr, is_ok, refl, sym, subst, inl, inr, ◌∙◌}
use Rattle.std.specs.Io.KnownBytes.{Appends, Keeps}
use Rattle.std.proofs.lemmas.List.{take_all}
use Rattle.hla_machine.specs.declared.step.Record.{Record}
use Rattle.hla_transcript.specs.Listed.{IsListed, IsListedInPart, is_failed_listing, listing}
use Rattle.hla_transcript.proofs.WriteLemmas.{appends_none}
use Rattle.hla_transcript.specs.declared.listing.ListFault.{ListFault}
use Rattle.hla_transcript.specs.declared.listing.ListFault.TheVariants as unlisted
use Rattle.hla_stage.specs.declared.player.PlayFault.{PlayFault}
use Rattle.hla_stage.specs.declared.player.PlayFault.TheVariants as unplayed
use Rattle.hla_stage.specs.Following.{FollowNext}
use Rattle.hla_stage.specs.Playing.{IsPlayedFrom, StopsBy, is_failed_transcript}
use Rattle.hla_stage.proofs.BreakLemmas.{broken_behind}
use Rattle.hla_transcript.specs.Watching.{Stream}
use Rattle.hla_files.specs.Program.{WritesLine, Whole, Cut, Complains, PlayCause, ListCause, memory_line}

pub or-false : (b : Bool) → (b || false) ≡ b
or-false true = refl
or-false false = refl

pub or-true : (b : Bool) → (b || true) ≡ true
or-true true = refl
or-true false = refl

or-not : (b c : Bool) → (b || not c) ≡ false → c ≡ true
or-not true c none = absurd (cc none)
or-not false true none = refl
or-not false false none = absurd (cc none)

-- where a writer has not failed, its flush handed all on
pub flushed : (before after done handed : Bool) → after ≡ (before || not done) → after ≡ false → handed ≡ done → handed ≡ true
flushed before after done handed failure sound is = is ∙ or-not before done (sym failure ∙ sound)

-- what is written whole, or else a beginning of it
pub tells_written : {X F : Type 0} (written : Result X F) (old new : Stream) (line : List ℕ) → OnOk written (Appends old.bytes new.bytes line) → OnErr written ((n : ℕ) × Appends old.bytes new.bytes (take n line)) → new.has_failed ≡ (old.has_failed || not (is_ok written)) → WritesLine old new line
tells_written (Ok x) old new line whole part failure = Whole whole (failure ∙ or-false old.has_failed)
tells_written (Err e) old new line whole part failure = Cut part.0 part.1 (failure ∙ or-true old.has_failed)

-- a line that there was memory for, or else that there was none
pub complains_made : {S F : Type 0} (text : S → List ℕ) (made : Result S F) (old new : Stream) (line : List ℕ) → IfOk made (λ s. text s ≡ line) → IfOk made (λ s. WritesLine old new (text s)) → OnErr made (WritesLine old new memory_line) → Complains old new line
complains_made text (Ok s) old new line is told none = inl (let P : List ℕ → Type 0 = λ l. WritesLine old new l in subst P is told)
complains_made text (Err e) old new line is told none = inr none

pub appends_kept : (a b c : Option (List ℕ)) (x : List ℕ) → Appends a b x → Keeps b c → Appends a c x
appends_kept None b c x grown kept = tt
appends_kept (Some xs) None c x grown kept = absurd grown
appends_kept (Some xs) (Some ys) None x grown kept = absurd kept
appends_kept (Some xs) (Some ys) (Some zs) x grown kept = kept ∙ grown

pub listed_kept : (fed : List ℕ) (a b c : Option (List ℕ)) → IsListed fed a b → Keeps b c → IsListed fed a c
listed_kept fed a b c is kept = (is.0, is.1, appends_kept a b c _ is.2 kept)

-- all of a list that could not be handed on
pub listed_unheld : (fed : List ℕ) (a b c : Option (List ℕ)) → IsListed fed a b → Keeps b c → IsListedInPart fed a c
listed_unheld fed a b c is kept =
    let text = listing is.0 in
    (is.0, is.1, (length text, subst (λ (t : List ℕ). Appends a c t) (sym (take_all (length text) text (omega arith))) (appends_kept a b c text is.2 kept)))

-- all of a transcript that could not be handed on
pub played_unheld : (fed script : List ℕ) (a b c : Option (List ℕ)) (records : List Record) → IsPlayedFrom fed script a b records → FollowNext records → Keeps b c → StopsBy false fed script a c unplayed.Write
played_unheld fed script a b c records is follows kept = broken_behind fed script a b c records is follows (appends_kept b b c [] (appends_none b) kept)

pub played_kept : (fed script : List ℕ) (a b c : Option (List ℕ)) (records : _) → IsPlayedFrom fed script a b records → Keeps b c → IsPlayedFrom fed script a c records
played_kept fed script a b c records is kept = record {
  catalogue = is.catalogue;
  lines = is.lines;
  describes = is.describes;
  says = is.says;
  played = record { outcomes = is.played.outcomes; plays = is.played.plays; writes = appends_kept a b c _ is.played.writes kept };
}

pub same_text : {S F : Type 0} (text : S → List ℕ) (made : Result S F) (x y : List ℕ) → x ≡ y → IfOk made (λ s. text s ≡ x) → IfOk made (λ s. text s ≡ y)
same_text text (Ok s) x y same is = is ∙ same
same_text text (Err e) x y same is = tt

-- where a write failed while playing or listing
pub play_cause : (why : PlayFault) (old : Bool) (new : Stream) → new.has_failed ≡ (old || is_failed_transcript why) → PlayCause why new
play_cause (unplayed.Fed e) old new failure = tt
play_cause (unplayed.Script e) old new failure = tt
play_cause unplayed.Write old new failure = failure ∙ or-true old
play_cause unplayed.Memory old new failure = tt

pub list_cause : (why : ListFault) (old : Bool) (new : Stream) → new.has_failed ≡ (old || is_failed_listing why) → ListCause why new
list_cause (unlisted.Fed e) old new failure = tt
list_cause unlisted.Write old new failure = failure ∙ or-true old
list_cause unlisted.Memory old new failure = tt
