-- What a line adds.
use Rattle.std.proofs.Common.{◌≡◌, ◌<◌, ℕ, List, [], ◌∷◌, ◌++◌, length, Result, Ok, Err, Option, refl, sym, ap, ◌∙◌, append_assoc, subst, inl, inr}
use Rattle.std.proofs.lemmas.List.{append-nil}
use Rattle.std.specs.Prelude.{Bool, true, false, ◌≢◌, OnOk, IfOk}
use Rattle.hla_base.specs.Limits.{max_history}
use Rattle.hla_base.specs.declared.fault.Fault.{Fault}
use Rattle.hla_base.specs.declared.fault.Fault.TheVariants as fault
use Rattle.hla_commands.specs.declared.lines.Command.{Command}
use Rattle.hla_requests.specs.declared.members.NamedFederate.{NamedFederate}
use Rattle.hla_catalogue.specs.CatalogueValue.{CatalogueValue}
use Rattle.hla_machine.specs.declared.step.Outcome.{Outcome}
use Rattle.hla_machine.specs.declared.step.Outcome.TheVariants as outcome
use Rattle.hla_machine.specs.declared.step.Record.{Record}
use Rattle.hla_commands.specs.declared.lines.Line.{Line}
use Rattle.hla_requests.specs.declared.lookups.AskFault.{AskFault}
use Rattle.hla_requests.specs.declared.lookups.AskFault.TheVariants as stop
use Rattle.hla_requests.specs.declared.steps.Request.{Request}
use Rattle.hla_requests.specs.Members.{members}
use Rattle.hla_requests.specs.Requests.{Asks, request_of}
use Rattle.hla_stage.specs.Playing.{LineEnds, WithoutStep, Full, OutOfMemory, Recorded, record_of, IsAdmitted, HasNoRoom, IsAnsweredAs, IsPlayedAs, IsPlayedFrom, IsPlayedAll, IsPlayedWhole, AreRemembered, Plays, transcript}
use Rattle.hla_stage.specs.declared.player.PlayFault.{PlayFault}
use Rattle.hla_transcript.specs.Printed.{line_text}
use Rattle.hla_transcript.proofs.WriteLemmas.{appends_none, appends_more}
use Rattle.std.specs.Io.KnownBytes.{Appends}

-- a line that adds no record
pub adds_none : (c : CatalogueValue) (line : Line) (before : List Record) (old new : List ℕ) (given : Result Bool Fault) (e : Fault) → LineEnds c before line.command (outcome.Refused e) []
    → OnOk given (new ≡ old ++ line_text c line.number (outcome.Refused e)) → IfOk given (λ whole. whole ≡ true → e ≢ fault.OutOfMemory) → IfOk given (λ whole. IsAnsweredAs whole c line before before old new)
adds_none c line before old new (Ok whole) e ends printed remembered = record {
  answered = record { ended = outcome.Refused e; added = []; ends = ends; records = sym (append-nil before); text = printed };
  remembered = λ is same. remembered is (cc same);
}
adds_none c line before old new (Err k) e ends printed remembered = tt

-- the same, printed with an equal catalogue
pub adds_none_in : (c other : CatalogueValue) (line : Line) (before : List Record) (old new : List ℕ) (given : Result Bool Fault) (e : Fault) → other ≡ c → LineEnds c before line.command (outcome.Refused e) []
    → OnOk given (new ≡ old ++ line_text other line.number (outcome.Refused e)) → IfOk given (λ whole. whole ≡ true → e ≢ fault.OutOfMemory) → IfOk given (λ whole. IsAnsweredAs whole c line before before old new)
adds_none_in c other line before old new given e same ends printed =
    adds_none c line before old new given e ends (subst (λ (t : CatalogueValue). OnOk given (new ≡ old ++ line_text t line.number (outcome.Refused e))) same printed)

-- a line that adds one
pub adds_one : (c other : CatalogueValue) (line : Line) (before : List Record) (asked : Request) (r : Record) (old new : List ℕ) → other ≡ c → IsAdmitted c before line.command asked
    → (r.outcome ≡ outcome.Refused fault.OutOfMemory → ⊥) → r ≡ record_of c asked r.outcome r.choice → new ≡ old ++ line_text other line.number r.outcome → IsAnsweredAs true c line before (before ++ r ∷ []) old new
adds_one c other line before asked r old new same admitted remembered is printed = record {
  answered = record {
    ended = r.outcome;
    added = r ∷ [];
    ends = Recorded asked r.choice admitted remembered (ap (λ (x : Record). x ∷ []) is);
    records = refl;
    text = printed ∙ ap (λ (t : CatalogueValue). old ++ line_text t line.number r.outcome) same;
  };
  remembered = λ whole. remembered;
}

-- ---- why a line is not admitted
module _ (c : CatalogueValue) (command : Command) (before : List Record) (slice ms : List NamedFederate) (same : slice ≡ ms) (joined : ms ≡ members before) where
  -- what is asked hangs on the members that the records say
  meant : (asked : Result Request AskFault) → Asks asked (request_of c slice command) → Asks asked (request_of c (members before) command)
  meant asked asks = subst (λ (xs : List NamedFederate). Asks asked (request_of c xs command)) (same ∙ joined) asks

  pub ends_refused : (e : Fault) → Asks {X = Request} (Err (stop.Refused e)) (request_of c slice command) → LineEnds c before command (outcome.Refused e) []
  ends_refused e asks = WithoutStep e (meant (Err (stop.Refused e)) asks) refl refl

  ends_behind : (asked : Request) (e : Fault) → HasNoRoom before e → request_of c (members before) command ≡ Ok asked → LineEnds c before command (outcome.Refused e) []
  ends_behind asked e none is = elim none [
    | inl full ↦ Full asked is full.0 (ap (λ (k : Fault). outcome.Refused k) full.1) refl
    | inr few ↦ OutOfMemory asked (record { asks = is; room = few.0 }) (ap (λ (k : Fault). outcome.Refused k) few.1) refl
  ]

  pub ends_without_memory : (e : Fault) → HasNoRoom before e → Asks {X = Request} (Err stop.Memory) (request_of c slice command) → LineEnds c before command (outcome.Refused e) []
  ends_without_memory e none asks = let is = meant (Err stop.Memory) asks in ends_behind is.0 e none is.1

  pub ends_without_room : (asked : Request) (e : Fault) → HasNoRoom before e → Asks (Ok asked) (request_of c slice command) → LineEnds c before command (outcome.Refused e) []
  ends_without_room asked e none asks = ends_behind asked e none (meant (Ok asked) asks)

  pub admits : (asked : Request) → length before < max_history → Asks (Ok asked) (request_of c slice command) → IsAdmitted c before command asked
  admits asked few asks = record { asks = meant (Ok asked) asks; room = few }

plays_more : (ls : List Line) (os : List Outcome) (c : CatalogueValue) (before middle : List Record) (l : Line) (o : Outcome) (added : List Record) → Plays c before ls os middle → LineEnds c middle l.command o added
    → Plays c before (ls ++ l ∷ []) (os ++ o ∷ []) (middle ++ added)
plays_more [] [] c before middle l o added played ends = (added, (subst (λ (rs : List Record). LineEnds c rs l.command o added) (sym played) ends, ap (λ (rs : List Record). rs ++ added) played))
plays_more [] (p ∷ os) c before middle l o added played ends = absurd played
plays_more (k ∷ ls) [] c before middle l o added played ends = absurd played
plays_more (k ∷ ls) (p ∷ os) c before middle l o added played ends = (played.0, (played.1.0, plays_more ls os c (before ++ played.0) middle l o added played.1.1 ends))

transcript_more : (ls : List Line) (os : List Outcome) (c : CatalogueValue) (before middle : List Record) (l : Line) (o : Outcome) → Plays c before ls os middle → transcript c ls os ++ line_text c l.number o ≡ transcript c (ls ++ l ∷ []) (os ++ o ∷ [])
unfolding transcript
transcript_more [] [] c before middle l o played = sym (append-nil _)
transcript_more [] (p ∷ os) c before middle l o played = absurd played
transcript_more (k ∷ ls) [] c before middle l o played = absurd played
transcript_more (k ∷ ls) (p ∷ os) c before middle l o played =
    append_assoc (line_text c k.number p) (transcript c ls os) (line_text c l.number o) ∙ ap (λ (r : List ℕ). line_text c k.number p ++ r) (transcript_more ls os c (before ++ played.0) middle l o played.1.1)

pair_same : {X Y : Type 0} (x x' : X) (y y' : Y) → x ≡ x' → y ≡ y' → ◌≡◌ {A = X × Y} (x, y) (x', y')
pair_same x x' y y' e f = rw (e, f) refl

-- of outcomes that had memory, with one more
remembered_more : (os : List Outcome) (o : Outcome) → AreRemembered os → (o ≡ outcome.Refused fault.OutOfMemory → ⊥) → AreRemembered (os ++ o ∷ [])
unfolding AreRemembered
remembered_more [] o are is = (is, tt)
remembered_more (p ∷ os) o are is = (are.0, remembered_more os o are.1 is)

-- one more line is played and written
pub played_more : (whole remembered : Bool) → (whole ≡ true → remembered ≡ true) → (c other : CatalogueValue) (ls : List Line) (l : Line) (rs after : List Record) (empty text written : List ℕ) (a b d : Option (List ℕ)) → other ≡ c → empty ≡ [] → IsPlayedAs whole c ls a b rs → IsAnsweredAs remembered other l rs after empty text → written ≡ text → Appends b d written
    → IsPlayedAs whole c (ls ++ l ∷ []) a d after
played_more whole remembered goes_on c other ls l rs after empty text written a b d same none so_far line is writes =
    let played = so_far.played in
    let answered : IsAnsweredAs remembered c l rs after [] text = subst (λ (p : CatalogueValue × List ℕ). IsAnsweredAs remembered p.0 l rs after p.1 text) (pair_same other c empty [] same none) line in
    let now = answered.answered in
    let os = played.outcomes in
    record {
      played = record {
        outcomes = os ++ now.ended ∷ [];
        plays = subst (λ (x : List Record). Plays c [] (ls ++ l ∷ []) (os ++ now.ended ∷ []) x) (sym now.records) (plays_more ls os c [] rs l now.ended now.added played.plays now.ends);
        writes = appends_more a b d (transcript c ls os) written _ played.writes writes (ap (λ (t : List ℕ). transcript c ls os ++ t) (is ∙ now.text) ∙ transcript_more ls os c [] rs l now.ended played.plays);
      };
      remembered = λ all. remembered_more os now.ended (so_far.remembered all) (answered.remembered (goes_on all));
    }

-- at first nothing is played
pub played_nothing : (whole : Bool) (c : CatalogueValue) (a : Option (List ℕ)) → IsPlayedAs whole c [] a a []
unfolding transcript AreRemembered
played_nothing whole c a = record { played = record { outcomes = []; plays = refl; writes = appends_none a }; remembered = λ all. tt }

-- ---- a script that is played, whole or not
pub played_from : (fed script : List ℕ) (old new : Option (List ℕ)) (given : Result (List Record) PlayFault) → IfOk given (IsPlayedAll false fed script old new) → IfOk given (IsPlayedFrom fed script old new)
played_from fed script old new (Ok records) all = all.from
played_from fed script old new (Err e) all = tt

pub played_whole : (fed script : List ℕ) (old new : Option (List ℕ)) (given : Result (List Record) PlayFault) → IfOk given (IsPlayedAll true fed script old new) → IfOk given (IsPlayedWhole fed script old new)
played_whole fed script old new (Ok records) all = record { from = all.from; remembered = all.remembered refl }
played_whole fed script old new (Err e) all = tt
