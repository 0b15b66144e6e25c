-- A play that was broken off.
use Rattle.std.proofs.Common.{◌≡◌, ◌+◌, ℕ, Bool, false, List, [], ◌∷◌, ◌++◌, length, take, drop, Result, Ok, Err, IfErr, Option, None, refl, sym, ap, ◌∙◌, append_assoc, subst, inl, inr, arith}
use Rattle.std.proofs.lemmas.Bool.Decides.{leb_tells}
use Rattle.std.proofs.lemmas.List.{append-nil, take_all, take-append-le, take-append-drop}
use Rattle.std.proofs.Math.Seq.{take-append-add}
use Rattle.std.specs.Io.KnownBytes.{Appends}
use Rattle.hla_base.specs.Limits.{max_history}
use Rattle.hla_base.specs.declared.fault.Fault.{Fault}
use Rattle.hla_base.specs.declared.fault.Fault.TheVariants as fault
use Rattle.hla_catalogue.specs.CatalogueValue.{CatalogueValue}
use Rattle.hla_commands.specs.Script.{script_of}
use Rattle.hla_commands.specs.declared.lines.Command.{Command}
use Rattle.hla_commands.specs.declared.lines.Line.{Line}
use Rattle.hla_components.specs.Executions.{no_federations}
use Rattle.hla_fed_file.specs.Grammar.{Describes}
use Rattle.hla_machine.specs.declared.step.Outcome.{Outcome}
use Rattle.hla_machine.specs.declared.step.Outcome.TheVariants as outcome
use Rattle.hla_machine.specs.declared.step.Record.{Record}
use Rattle.hla_requests.specs.Members.{members}
use Rattle.hla_requests.specs.Requests.{request_of}
use Rattle.hla_requests.specs.declared.steps.Request.{Request}
use Rattle.hla_stage.specs.Following.{FollowNext}
use Rattle.hla_stage.specs.Playing.{LineEnds, WithoutStep, Full, OutOfMemory, Plays, transcript, IsAnsweredAs, IsPlayedAs, IsBegun, IsPlayedFrom, IsLeftAt, IsLeftIn, IsBrokenOff, IsBeginning, StopsBy, BeginsBy}
use Rattle.hla_stage.specs.declared.player.PlayFault.{PlayFault}
use Rattle.hla_stage.specs.declared.player.PlayFault.TheVariants as stop
use Rattle.hla_stage.specs.declared.player.StopFault.TheVariants as cut
use Rattle.hla_transcript.specs.Printed.{line_text}
use Rattle.hla_transcript.proofs.WriteLemmas.{appends_none, appends_more}
use Rattle.hla_stage.proofs.PlayLemmas.{played_nothing}

-- ---- each script may be played to its end: a line that asks for something may run out of memory, and adds no record then
line_ends_by : (c : CatalogueValue) (before : List Record) (command : Command) (asked : Result Request Fault) → request_of c (members before) command ≡ asked → (o : Outcome) × LineEnds c before command o []
line_ends_by c before command (Err e) is = (outcome.Refused e, WithoutStep e is refl refl)
line_ends_by c before command (Ok asked) is = elim (leb_tells max_history (length before)) [
  | inl full ↦ (outcome.Refused fault.HistoryFull, Full asked is full.1 refl refl)
  | inr few ↦ (outcome.Refused fault.OutOfMemory, OutOfMemory asked (record { asks = is; room = few.1 }) refl refl)
]

-- no more records follow the next-state function as well
follows_with_none : (rs : List Record) → FollowNext rs → FollowNext (rs ++ [])
follows_with_none rs follows = subst (λ (qs : List Record). FollowNext qs) (sym (append-nil rs)) follows

-- how lines may end behind some records
record PlaysOn (c : CatalogueValue) (before : List Record) (ls : List Line) : Type 0 where
  outcomes : List Outcome
  records : List Record
  plays : Plays c before ls outcomes records
  follows : FollowNext records

-- where the first of them ends so
abbrev plays_on_behind : (c : CatalogueValue) (before : List Record) (l : Line) (ls : List Line) (o : Outcome) (added : List Record) → LineEnds c before l.command o added → PlaysOn c (before ++ added) ls → PlaysOn c before (l ∷ ls)
plays_on_behind c before l ls o added ends on = record { outcomes = o ∷ on.outcomes; records = on.records; plays = (added, (ends, on.plays)); follows = on.follows }

plays_on : (c : CatalogueValue) (before : List Record) (ls : List Line) → FollowNext before → PlaysOn c before ls
plays_on c before [] follows = record { outcomes = []; records = before; plays = refl; follows = follows }
plays_on c before (l ∷ ls) follows =
    let here = line_ends_by c before l.command (request_of c (members before) l.command) refl in
    plays_on_behind c before l ls here.0 [] here.1 (plays_on c (before ++ []) ls (follows_with_none before follows))

-- ---- lines behind others
plays_joined : (ls : List Line) (os : List Outcome) (c : CatalogueValue) (before middle after : List Record) (ms : List Line) (ps : List Outcome) → Plays c before ls os middle → Plays c middle ms ps after
    → Plays c before (ls ++ ms) (os ++ ps) after
plays_joined [] [] c before middle after ms ps played more = subst (λ (rs : List Record). Plays c rs ms ps after) (sym played) more
plays_joined [] (o ∷ os) c before middle after ms ps played more = absurd played
plays_joined (l ∷ ls) [] c before middle after ms ps played more = absurd played
plays_joined (l ∷ ls) (o ∷ os) c before middle after ms ps played more = (played.0, (played.1.0, plays_joined ls os c (before ++ played.0) middle after ms ps played.1.1 more))

transcript_joined : (ls : List Line) (os : List Outcome) (c : CatalogueValue) (before middle : List Record) (ms : List Line) (ps : List Outcome) → Plays c before ls os middle → transcript c (ls ++ ms) (os ++ ps) ≡ transcript c ls os ++ transcript c ms ps
unfolding transcript
transcript_joined [] [] c before middle ms ps played = refl
transcript_joined [] (o ∷ os) c before middle ms ps played = absurd played
transcript_joined (l ∷ ls) [] c before middle ms ps played = absurd played
transcript_joined (l ∷ ls) (o ∷ os) c before middle ms ps played =
    ap (λ (t : List ℕ). line_text c l.number o ++ t) (transcript_joined ls os c (before ++ played.0) middle ms ps played.1.1)
    ∙ sym (append_assoc (line_text c l.number o) (transcript c ls os) (transcript c ms ps))

-- ---- a beginning of a text is one of what begins with the text
beginning_of : (n : ℕ) (text rest : List ℕ) → (k : ℕ) × (take k (text ++ rest) ≡ take n text)
beginning_of n text rest = elim (leb_tells n (length text)) [
  | inl within ↦ (n, take-append-le n text rest within.1)
  | inr past ↦ (length text, take-append-le (length text) text rest (omega arith) ∙ take_all (length text) text (omega arith) ∙ sym (take_all n text (omega (arith, past.1))))
]

-- a beginning of how lines go on
record GoesOn (c : CatalogueValue) (before : List Record) (ls : List Line) (old new : Option (List ℕ)) : Type 0 where
  on : PlaysOn c before ls
  written : ℕ
  writes : Appends old new (take written (transcript c ls on.outcomes))

goes_on : (c : CatalogueValue) (before : List Record) (ls : List Line) (old new : Option (List ℕ)) → FollowNext before → IsBegun c before ls old new → GoesOn c before ls old new
unfolding transcript
goes_on c before [] old new follows begun = record { on = record { outcomes = []; records = before; plays = refl; follows = follows }; written = 0; writes = begun }
goes_on c before (l ∷ ls) old new follows begun =
    let rest = plays_on c (before ++ begun.1) ls begun.3 in
    let part = beginning_of begun.4.0 (line_text c l.number begun.0) (transcript c ls rest.outcomes) in
    record {
      on = plays_on_behind c before l ls begun.0 begun.1 begun.2 rest;
      written = part.0;
      writes = subst (λ (t : List ℕ). Appends old new t) (sym part.1) begun.4.1;
    }

-- nothing written is a beginning, too
none_begun : (c : CatalogueValue) (before : List Record) (ls : List Line) (a : Option (List ℕ)) → FollowNext before → IsBegun c before ls a a
none_begun c before [] a follows = appends_none a
none_begun c before (l ∷ ls) a follows = let here = line_ends_by c before l.command (request_of c (members before) l.command) refl in (here.0, [], here.1, follows_with_none before follows, (0, appends_none a))

-- what was written is a beginning of what all lines print
module _ (whole : Bool) (fed script : List ℕ) (c : CatalogueValue) (lines : List Line) (describes : Describes fed c) (says : script_of script ≡ Ok lines) where
  left_in : (old new : Option (List ℕ)) → IsLeftIn whole c lines old new → IsBeginning fed script old new
  left_in old new is =
      let so_far = is.played.played.played in
      let done = is.played.done in
      let os = so_far.outcomes in
      let more = goes_on c is.records is.left is.middle new is.played.follows is.begun in
      let printed = transcript c done os in
      let all : transcript c (done ++ is.left) (os ++ more.on.outcomes) ≡ printed ++ transcript c is.left more.on.outcomes = transcript_joined done os c [] is.records is.left more.on.outcomes so_far.plays in
      record {
        catalogue = c;
        lines = lines;
        describes = describes;
        says = says;
        outcomes = os ++ more.on.outcomes;
        records = more.on.records;
        plays = subst (λ (ls : List Line). Plays c [] ls (os ++ more.on.outcomes) more.on.records) (sym is.played.parts) (plays_joined done os c [] is.records more.on.records is.left more.on.outcomes so_far.plays more.on.plays);
        follows = more.on.follows;
        written = length printed + more.written;
        writes = appends_more old is.middle new printed (take more.written (transcript c is.left more.on.outcomes)) _ so_far.writes more.writes
            (sym (ap (λ (ls : List Line). take (length printed + more.written) (transcript c ls (os ++ more.on.outcomes))) is.played.parts ∙ ap (λ (t : List ℕ). take (length printed + more.written) t) all ∙ take-append-add printed (transcript c is.left more.on.outcomes) more.written));
      }

left_within : (whole : Bool) (c : CatalogueValue) (lines : List Line) (old new : Option (List ℕ)) → IsLeftAt whole c lines old new → IsLeftIn whole c lines old new
left_within whole c lines old new is = record { records = is.records; left = is.left; middle = new; played = is.played; begun = none_begun c is.records is.left new is.played.follows }

-- what a play answers
pub begins_by : (whole : Bool) (fed script : List ℕ) (old new : Option (List ℕ)) (why : PlayFault) → StopsBy whole fed script old new why → BeginsBy fed script old new why
begins_by whole fed script old new (stop.Fed e) stops = stops.1
begins_by whole fed script old new (stop.Script e) stops = stops.2
begins_by whole fed script old new stop.Write is = left_in whole fed script is.catalogue is.lines is.describes is.says old new is.breaks
begins_by whole fed script old new stop.Memory is = left_in whole fed script is.catalogue is.lines is.describes is.says old new (left_within whole is.catalogue is.lines old new is.breaks)

pub begun_by : {R : Type 0} (whole : Bool) (fed script : List ℕ) (old new : Option (List ℕ)) (given : Result R PlayFault) → IfErr given (StopsBy whole fed script old new) → IfErr given (BeginsBy fed script old new)
begun_by whole fed script old new (Ok r) stops = tt
begun_by whole fed script old new (Err why) stops = begins_by whole fed script old new why stops

-- ---- where the loop ends early
-- ahead of the line at place i
pub left_at : (whole : Bool) (c : CatalogueValue) (items : List Line) (i : ℕ) (rs : List Record) (a b : Option (List ℕ)) → IsPlayedAs whole c (take i items) a b rs → FollowNext rs → IsLeftAt whole c items a b
left_at whole c items i rs a b so_far follows = record {
  records = rs;
  left = drop i items;
  played = record { done = take i items; parts = sym (take-append-drop i items); played = so_far; follows = follows };
}

-- within it
pub left_in_line : (whole remembered : Bool) (c other : CatalogueValue) (items : List Line) (i : ℕ) (line : Line) (rs after : List Record) (empty text written : List ℕ) (a b d : Option (List ℕ)) → other ≡ c → empty ≡ []
    → take (i + 1) items ≡ take i items ++ line ∷ [] → IsPlayedAs whole c (take i items) a b rs → FollowNext rs → IsAnsweredAs remembered other line rs after empty text → FollowNext after → written ≡ text → (n : ℕ) × Appends b d (take n written)
    → IsLeftIn whole c items a d
left_in_line whole remembered c other items i line rs after empty text written a b d same none more so_far follows is_answered follows_then is part =
    let now = is_answered.answered in
    let ends : LineEnds c rs line.command now.ended now.added = subst (λ (k : CatalogueValue). LineEnds k rs line.command now.ended now.added) same now.ends in
    let printed : written ≡ line_text c line.number now.ended =
    is ∙ now.text ∙ ap (λ (e : List ℕ). e ++ line_text other line.number now.ended) none ∙ ap (λ (k : CatalogueValue). line_text k line.number now.ended) same in
    record {
      records = rs;
      left = line ∷ drop (i + 1) items;
      middle = b;
      played = record {
        done = take i items;
        parts = sym (take-append-drop (i + 1) items) ∙ ap (λ (ls : List Line). ls ++ drop (i + 1) items) more ∙ append_assoc (take i items) (line ∷ []) (drop (i + 1) items);
        played = so_far;
        follows = follows;
      };
      begun = (now.ended, now.added, ends, subst (λ (qs : List Record). FollowNext qs) now.records follows_then, (part.0, subst (λ (t : List ℕ). Appends b d (take part.0 t)) printed part.1));
    }

-- ahead of all
pub left_first : (whole : Bool) (c : CatalogueValue) (lines : List Line) (a : Option (List ℕ)) → IsLeftAt whole c lines a a
left_first whole c lines a = record { records = []; left = lines; played = record { done = []; parts = refl; played = played_nothing whole c a; follows = (no_federations, refl) } }

-- ---- where all was written, and could not be handed on
pub broken_behind : (fed script : List ℕ) (a b c : Option (List ℕ)) (records : List Record) → IsPlayedFrom fed script a b records → FollowNext records → Appends b c [] → IsBrokenOff false fed script a c cut.Write
broken_behind fed script a b c records is follows kept = record {
  catalogue = is.catalogue;
  lines = is.lines;
  describes = is.describes;
  says = is.says;
  breaks = record {
    records = records;
    left = [];
    middle = b;
    played = record { done = is.lines; parts = sym (append-nil is.lines); played = record { played = is.played; remembered = λ all. absurd (cc all) }; follows = follows };
    begun = kept;
  };
}

-- a writer of which nothing is known says nothing of what it was given
pub breaks_unseen : (whole : Bool) (fed script : List ℕ) → IsBrokenOff whole fed script None None cut.Write → IsBrokenOff whole fed script None None cut.Memory
breaks_unseen whole fed script is = record {
  catalogue = is.catalogue;
  lines = is.lines;
  describes = is.describes;
  says = is.says;
  breaks = record {
    records = is.breaks.records;
    left = is.breaks.left;
    played = record {
      done = is.breaks.played.done;
      parts = is.breaks.played.parts;
      played = record {
        played = record { outcomes = is.breaks.played.played.played.outcomes; plays = is.breaks.played.played.played.plays; writes = tt };
        remembered = is.breaks.played.played.remembered;
      };
      follows = is.breaks.played.follows;
    };
  };
}
