-- Messages that a service sends, and how the state stands after them
use Rattle.std.proofs.Common.{◌≡◌, ℕ, ◌+◌, List, [], ◌∷◌, ◌++◌, length, cond, eqb, ◌&&◌, Bool, true, false, Option, None, Some, is_some, unwrap_or, refl, sym, ap, ◌∙◌, arith, ⊎_elim}
use Rattle.std.proofs.lemmas.Bool.{cases_Bool}
use Rattle.std.proofs.lemmas.Bool.Decides.{nat_tests}
use Rattle.std.proofs.lemmas.List.{append-nil, append_assoc}
use Rattle.std.proofs.Math.Path.{fun_ext}
use Rattle.hla_base.specs.declared.content.Content.{Content}
use Rattle.hla_base.specs.declared.row.TimeRow.{TimeRow}
use Rattle.hla_base.specs.Rows.{is_enabled}
use Rattle.hla_base.specs.Tables.{upd, upd2, upd_row, is_other, when}
use Rattle.hla_catalogue.specs.declared.declared.Order.TheVariants.{Timestamp}
use Rattle.hla_null_message.specs.declared.message.Message.{Message}
use Rattle.hla_null_message.specs.declared.message.Message.TheVariants as message
use Rattle.hla_machine.specs.Directory.{Directory, Outgoing, content_for, is_of_order}
use Rattle.hla_machine.specs.Sends.{is_ordered, kept_stamp, sent_event}
use Rattle.hla_components.specs.Components.{Components}
use Rattle.hla_components.specs.Next.{with_message_sent, with_messages_sent, put_event}
use Rattle.hla_federation.specs.Steps.Sending.{order_stamp, heading_of, said_messages, message_to, messages_to}
use Rattle.hla_base.proofs.Tables.{upd_same}
use Rattle.hla_retraction.specs.SentEvents.{SentEvent}

-- ---- what heads a message
stamped : (a e : Bool) (stamp : Option ℕ) → a && is_some stamp && e ≡ is_some (when (a && e) stamp)
stamped true true None = refl
stamped true true (Some t) = refl
stamped true false None = refl
stamped true false (Some t) = refl
stamped false e stamp = refl

kept : (a e : Bool) (stamp : Option ℕ) → cond (a && is_some stamp && e) (unwrap_or stamp 0) 0 ≡ unwrap_or (when (a && e) stamp) 0
kept true true None = refl
kept true true (Some t) = refl
kept true false None = refl
kept true false (Some t) = refl
kept false e stamp = refl

pub order_is : (r : TimeRow) (stamp : Option ℕ) (out : Outgoing) → is_ordered r stamp out ≡ is_some (order_stamp r out.order stamp)
order_is r stamp out = stamped (is_of_order Timestamp out.order) (is_enabled r.regulating) stamp

pub stamp_is : (r : TimeRow) (stamp : Option ℕ) (out : Outgoing) → kept_stamp r stamp out ≡ unwrap_or (order_stamp r out.order stamp) 0
stamp_is r stamp out = kept (is_of_order Timestamp out.order) (is_enabled r.regulating) stamp

put_said : (f serial : ℕ) (r : TimeRow) (stamp : Option ℕ) (out : Outgoing) (o : Option Content) (ms : List Message)
    → put_event f serial r stamp out o ms ≡ ms ++ said_messages (heading_of f serial r stamp out.order) o
put_said f serial r stamp out None ms = sym (append-nil ms)
put_said f serial r stamp out (Some x) ms = λ i. ms ++ message.Event (record { sender = f; serial = serial; ordered = order_is r stamp out i; stamp = stamp_is r stamp out i; content = x }) ∷ []

-- ---- the state after the messages
-- the wires after they were put on them
abbrev pub sent_wire : Directory → ℕ → ℕ → TimeRow → Option ℕ → List Outgoing → (ℕ → ℕ → List Message) → ℕ → ℕ → List Message
sent_wire d f serial r stamp outs wire = λ g h. cond (eqb f g) (wire g h ++ messages_to d f serial r stamp outs h) (wire g h)

-- what is kept of them
abbrev pub sent_events : Directory → ℕ → ℕ → TimeRow → Option ℕ → List Outgoing → (ℕ → ℕ → SentEvent) → ℕ → ℕ → SentEvent
sent_events d f serial r stamp [] sent = sent
sent_events d f serial r stamp (out ∷ outs) sent = sent_events d f (serial + 1) r stamp outs (upd2 sent f serial (sent_event d r f stamp out))

abbrev pub sent_all : Components → ℕ → Option ℕ → List Outgoing → Components
sent_all s f stamp outs = record s {
  serial = upd s.serial f (s.serial f + length outs);
  wire = sent_wire s.directory f (s.serial f) (s.row f) stamp outs s.wire;
  sent = sent_events s.directory f (s.serial f) (s.row f) stamp outs s.sent;
}

upd_again : {X : Type 0} (t : ℕ → X) (f : ℕ) (x y : X) (g : ℕ) → upd (upd t f x) f y g ≡ upd t f y g
unfolding upd
upd_again t f x y g = ⊎_elim (λ (e : eqb f g ≡ true). rw e refl) (λ (n : eqb f g ≡ false). rw n refl) (cases_Bool (eqb f g))

row_wire : (d : Directory) (f serial : ℕ) (r : TimeRow) (stamp : Option ℕ) (out : Outgoing) (wire : ℕ → ℕ → List Message) (g h : ℕ)
    → upd_row wire d.joined f (λ l. put_event f serial r stamp out (content_for d out.body l)) g h ≡ sent_wire d f serial r stamp (out ∷ []) wire g h
unfolding upd_row
row_wire d f serial r stamp out wire g h =
    let said = said_messages (heading_of f serial r stamp out.order) (content_for d out.body h) in
    ⊎_elim
    (λ (y : eqb f g ≡ true). ⊎_elim
    (λ (z : is_other d.joined f h ≡ true). rw (y, z) (put_said f serial r stamp out (content_for d out.body h) (wire g h) ∙ ap (λ (ms : List Message). wire g h ++ ms) (sym (append-nil said))))
    (λ (z : is_other d.joined f h ≡ false). rw (y, z) (sym (append-nil (wire g h))))
    (cases_Bool (is_other d.joined f h)))
    (λ (n : eqb f g ≡ false). rw n refl)
    (cases_Bool (eqb f g))

-- one message
sent_one : (s : Components) (f : ℕ) (stamp : Option ℕ) (out : Outgoing) → with_message_sent s f stamp out ≡ sent_all s f stamp (out ∷ [])
sent_one s f stamp out = λ i. record s {
  serial = upd s.serial f (s.serial f + 1);
  wire = fun_ext (λ g. fun_ext (λ h. row_wire s.directory f (s.serial f) (s.row f) stamp out s.wire g h)) i;
  sent = upd2 s.sent f (s.serial f) (sent_event s.directory (s.row f) f stamp out);
}

wire_more : (d : Directory) (f serial : ℕ) (r : TimeRow) (stamp : Option ℕ) (out : Outgoing) (outs : List Outgoing) (wire : ℕ → ℕ → List Message) (g h : ℕ)
    → sent_wire d f (serial + 1) r stamp outs (sent_wire d f serial r stamp (out ∷ []) wire) g h ≡ sent_wire d f serial r stamp (out ∷ outs) wire g h
wire_more d f serial r stamp out outs wire g h = ⊎_elim
    (λ (y : eqb f g ≡ true). rw (y, append-nil) (append_assoc (wire g h) (message_to d (heading_of f serial r stamp out.order) out.body h) (messages_to d f (serial + 1) r stamp outs h)))
    (λ (n : eqb f g ≡ false). rw n refl)
    (cases_Bool (eqb f g))

wire_same : (wire : ℕ → ℕ → List Message) (d : Directory) (f serial : ℕ) (r : TimeRow) (stamp : Option ℕ) (g h : ℕ) → wire g h ≡ sent_wire d f serial r stamp [] wire g h
wire_same wire d f serial r stamp g h = ⊎_elim
    (λ (y : eqb f g ≡ true). rw y (sym (append-nil (wire g h))))
    (λ (n : eqb f g ≡ false). rw n refl)
    (cases_Bool (eqb f g))

serial_same : (serial : ℕ → ℕ) (f g : ℕ) → serial g ≡ upd serial f (serial f + 0) g
unfolding upd
serial_same serial f g = ⊎_elim
    (λ (y : eqb f g ≡ true). let e : f ≡ g = grind (arith, nat_tests) in rw (y, e) (omega arith))
    (λ (n : eqb f g ≡ false). rw n refl)
    (cases_Bool (eqb f g))

-- all of them
pub sends_all : (s : Components) (f : ℕ) (stamp : Option ℕ) (outs : List Outgoing) → with_messages_sent s f stamp outs ≡ sent_all s f stamp outs
sends_all s f stamp [] = λ i. record s {
  serial = fun_ext (λ g. serial_same s.serial f g) i;
  wire = fun_ext (λ g. fun_ext (λ h. wire_same s.wire s.directory f (s.serial f) (s.row f) stamp g h)) i;
}
sends_all s f stamp (out ∷ outs) =
    let d = s.directory in
    let r = s.row f in
    let count : upd s.serial f (s.serial f + 1) f ≡ s.serial f + 1 = upd_same s.serial f (s.serial f + 1) in
    let serials : (g : ℕ) → upd (upd s.serial f (s.serial f + 1)) f (upd s.serial f (s.serial f + 1) f + length outs) g ≡ upd s.serial f (s.serial f + length (out ∷ outs)) g
    = λ g. upd_again s.serial f (s.serial f + 1) (upd s.serial f (s.serial f + 1) f + length outs) g ∙ ap (λ (n : ℕ). upd s.serial f n g) (omega (arith, count)) in
    let wires : (g h : ℕ) → sent_wire d f (upd s.serial f (s.serial f + 1) f) r stamp outs (sent_wire d f (s.serial f) r stamp (out ∷ []) s.wire) g h ≡ sent_wire d f (s.serial f) r stamp (out ∷ outs) s.wire g h
    = λ g h. ap (λ (n : ℕ). sent_wire d f n r stamp outs (sent_wire d f (s.serial f) r stamp (out ∷ []) s.wire) g h) count ∙ wire_more d f (s.serial f) r stamp out outs s.wire g h in
    ap (λ (t : Components). with_messages_sent t f stamp outs) (sent_one s f stamp out)
    ∙ sends_all (sent_all s f stamp (out ∷ [])) f stamp outs
    ∙ (λ i. record s {
      serial = fun_ext serials i;
      wire = fun_ext (λ g. fun_ext (λ h. wires g h)) i;
      sent = sent_events d f (count i) r stamp outs (upd2 s.sent f (s.serial f) (sent_event d r f stamp out));
    })
