use Rattle.std.proofs.Common.{◌≡◌, ◌+◌, ◌<◌, ◌≤◌, length, ltb, ◌&&◌, Bool, List, true, false, refl, sym, ap, ◌∙◌, arith}
use Rattle.std.proofs.Math.Bool.{and-false}
use Rattle.std.proofs.lemmas.Bool.Decides.{nat_tests}
use Rattle.hla_base.specs.FederateSets.{federate_set}
use Rattle.hla_execution.specs.MemberValue.{MemberValue, item, no_member}
use Rattle.hla_members.specs.Putting.{member_without_last}
use Rattle.hla_members.specs.Rooms.{RoomyMembers}
use Rattle.hla_members.proofs.TakingBack.{item_is, taken_length, taken_none, taken_not, taken_same, taken_next}
use Rattle.hla_members.proofs.members.Members.take_back.Goals as goal
use Rattle.hla_members.proofs.members.Members.take_back.Goals.{then-has, else-has}

pub loop-peer-init : goal.loop-peer-init
loop-peer-init c =
    let told = federate_set c.args.told in
    let ms = c.args.self.now.shown in
    sym (taken_same c.args.from 1 (λ h. told h && ltb h 1) (λ _. false) ms (λ h low high. let n : ltb h 1 ≡ false = grind (arith, nat_tests, low) in rw n (and-false (told h))) ∙ taken_none c.args.from 1 ms)

pub take_last-requires-clause-within : goal.take_last-requires-clause-within
take_last-requires-clause-within c =
    let told = federate_set c.args.told in
    let size : length c.loop-peer.self.shown ≡ length c.args.self.now.shown
    = ap (λ (l : List MemberValue). length l) c.loop-peer.invariant ∙ taken_length c.args.from 1 (λ h. told h && ltb h c.loop-peer.peer) c.args.self.now.shown in
    omega (arith, c.loop-peer-test.true, c.next_federate-end.ensures.number, size)

pub loop-peer-preserved : goal.loop-peer-preserved
loop-peer-preserved c =
    let told = federate_set c.args.told in
    let ms = c.args.self.now.shown in
    let f = c.args.from in
    let peer = c.loop-peer.peer in
    let now = c.loop-peer.self.shown in
    let some : 0 < peer = omega (arith, c.loop-peer.auto.peer) in
    let size : length now ≡ length ms = ap (λ (l : List MemberValue). length l) c.loop-peer.invariant ∙ taken_length f 1 (λ h. told h && ltb h peer) ms in
    let within : peer ≤ length ms = omega (arith, c.loop-peer-test.true, c.next_federate-end.ensures.number) in
    let there : peer ≤ length now = omega (arith, within, size) in
    elim c.if-has.branch [
      | then-has w ↦
          let yes : told peer ≡ true = sym c.has.ensures.member ∙ w.if-has.true in
          ap (λ (x : RoomyMembers). x.shown) w.self-is
          ∙ w.take_last.ensures
          ∙ taken_next f peer told ms now (item no_member now peer) (member_without_last f (item no_member now peer)) some within c.loop-peer.invariant
          (item_is no_member now peer (item no_member now peer) some there refl) refl yes
      | else-has w ↦
          let no : told peer ≡ false = sym c.has.ensures.member ∙ w.if-has.false in
          ap (λ (x : RoomyMembers). x.shown) w.self-is ∙ c.loop-peer.invariant ∙ taken_not f peer told ms no
    ]

pub returns : goal.returns
returns c =
    let told = federate_set c.args.told in
    let ms = c.args.self.now.shown in
    let all : length ms + 1 ≤ c.loop-peer.peer = omega (arith, c.loop-peer-test.false, c.next_federate-end.ensures.number) in
    c.loop-peer.invariant
    ∙ taken_same c.args.from 1 (λ h. told h && ltb h c.loop-peer.peer) told ms (λ h low high. let y : ltb h c.loop-peer.peer ≡ true = grind (arith, nat_tests, high, all) in rw y (and-true (told h)))
  where
    and-true : (b : Bool) → b && true ≡ b
    and-true true = refl
    and-true false = refl
