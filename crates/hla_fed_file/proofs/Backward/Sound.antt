-- What is read is in the grammar.
use Rattle.hla_base.specs.Limits.{max_fed_file}
use Rattle.std.proofs.Common.{◌≡◌, ℕ, ◌+◌, ◌≤◌, Bool, true, false, List, [], ◌∷◌, length, Some, Ok, Err, nat_lt, cond, refl, ap, ◌∙◌, arith, inl, inr, zero, suc}
use Rattle.std.proofs.lemmas.Bool.Decides.{nat_tests}
use Rattle.hla_fed_file.specs.Lexical as text
use Rattle.hla_fed_file.specs.Lexical.{Lexed, tokens}
use Rattle.hla_fed_file.specs.Tokens.{is_end}
use Rattle.hla_catalogue.specs.CatalogueValue.{CatalogueValue, empty_catalogue}
use Rattle.hla_catalogue.specs.Declaring.{with_object_class, with_interaction_class}
use Rattle.hla_fed_file.specs.Reading.{reading, after_token, after_open, after_close, after_word, after_quoted, after_name_at, place_behind_keyword, outcome_after, Outcome, start, reading_of, Step}
use Rattle.hla_fed_file.specs.Grammar.{LeftParen, RightParen, Means, Named, TheEnd, Fits, Spells, ObjectClasses, NoClass, TopClass, InteractionClasses, NoTop, ATop, Parts, NoPart, ALabel, AnIgnored, Objects, Interactions, object_classes_then, interaction_classes_then, parts_then, file_of, transport_of, order_of, object_items_declare, interaction_items_declare, object_classes_declare, interaction_classes_declare, parts_declare, IsShort, object_classes_fit, interaction_classes_fit, parts_fit, Describes}
use Rattle.hla_fed_file.specs.declared.fault.FedFaultKind.TheVariants as kind
use Rattle.hla_fed_file.specs.declared.place.Keyword.{Keyword}
use Rattle.hla_fed_file.specs.declared.place.Keyword.TheVariants as word
use Rattle.hla_fed_file.specs.declared.place.Head.TheVariants as head
use Rattle.hla_fed_file.specs.declared.place.NameOf.TheVariants as name
use Rattle.hla_fed_file.specs.declared.place.Lists.TheVariants as lists
use Rattle.hla_fed_file.specs.declared.place.Within.TheVariants as within
use Rattle.hla_fed_file.specs.declared.place.Place.{Place}
use Rattle.hla_fed_file.specs.declared.place.Place.TheVariants as at
use Rattle.hla_fed_file.specs.declared.reader.Reader.{Reader}
use Rattle.hla_fed_file.proofs.Forward.ReadSteps.{reader_at, reader}
use Rattle.hla_fed_file.proofs.Backward.BackSteps.{Tail, at_next, back, between_token, head_token, list_back, name_token, none_left, ok_same, was_named}
use Rattle.hla_fed_file.proofs.Backward.BackObjects.{class_back, object_body}
use Rattle.hla_fed_file.proofs.Backward.BackInteractions.{interaction_body, subclass_back}

-- Lists of classes.
object_class_begun : (k : Keyword) (d : ℕ) (place : Place) → place_behind_keyword head.ObjectClass d (Some k) ≡ Some place → (k ≡ word.Class) × (place ≡ at.Name name.ObjectClass)
object_class_begun word.Class d place h = (refl, cc)
object_class_begun k d place h = cc

interaction_class_begun : (k : Keyword) (d : ℕ) (place : Place) → place_behind_keyword head.InteractionClass d (Some k) ≡ Some place → (k ≡ word.Class) × (place ≡ at.Name name.InteractionClass)
interaction_class_begun word.Class d place h = (refl, cc)
interaction_class_begun k d place h = cc

record ObjectClassesRead (c : CatalogueValue) (ts : List Lexed) (final : CatalogueValue) : Type 0 where
  classes : ObjectClasses
  fit : object_classes_fit classes c
  tail : Tail (λ ss. object_classes_then classes (RightParen ∷ ss)) ts (reader (at.Between lists.Parts) 1 [] (object_classes_declare classes c)) final

classes_close : (c : CatalogueValue) → after_close (reader (at.Between lists.ObjectClasses) 2 [] c) ≡ Ok (reader (at.Between lists.Parts) 1 [] c)
unfolding after_close
classes_close c = refl

top_closes : (n : ℕ) (c : CatalogueValue) → after_close (reader (at.Between lists.ObjectItems) 3 (n ∷ []) c) ≡ Ok (reader (at.Between lists.ObjectClasses) 2 [] c)
unfolding after_close
top_closes n c = refl

object_classes_back : (n : ℕ) (c : CatalogueValue) (ts : List Lexed) (final : CatalogueValue) → length ts ≤ n → reading (reader (at.Between lists.ObjectClasses) 2 [] c) ts ≡ Ok final → ObjectClassesRead c ts final
object_classes_back n c [] final few h = absurd (none_left (reader (at.Between lists.ObjectClasses) 2 [] c) final refl h)
object_classes_back zero c (t ∷ ts) final few h = absurd (omega arith)
object_classes_back (suc n) c (t ∷ []) final few h =
    let b = back (reader (at.Between lists.ObjectClasses) 2 [] c) t [] final refl h in
    elim (between_token t.token lists.ObjectClasses 2 [] c b.next b.step) [
      | inl p ↦ absurd (none_left (reader (at.Head head.ObjectClass) 3 [] c) final refl (at_next _ _ [] final p.2 b.read))
      | inr p ↦
          let behind : b.next ≡ reader (at.Between lists.Parts) 1 [] c = ok_same _ _ _ p.1 (classes_close c) in
          record { classes = NoClass; fit = tt; tail = record { rest = []; fewer = omega arith; spelled = λ ss sp. (p.0, sp); read = at_next _ _ [] final behind b.read } }
    ]
object_classes_back (suc n) c (t ∷ k ∷ ts) final few h =
    let b = back (reader (at.Between lists.ObjectClasses) 2 [] c) t (k ∷ ts) final refl h in
    elim (between_token t.token lists.ObjectClasses 2 [] c b.next b.step) [
      | inr p ↦
          let behind : b.next ≡ reader (at.Between lists.Parts) 1 [] c = ok_same _ _ _ p.1 (classes_close c) in
          record { classes = NoClass; fit = tt; tail = record { rest = k ∷ ts; fewer = omega arith; spelled = λ ss sp. (p.0, sp); read = at_next _ _ (k ∷ ts) final behind b.read } }
      | inl p ↦
          let s = reader (at.Between lists.ObjectClasses) 2 [] c in
          let w = back (reader_at s (at.Head head.ObjectClass) 3) k ts final refl (at_next _ _ (k ∷ ts) final p.2 b.read) in
          let q = head_token k.token head.ObjectClass 3 s w.next w.step in
          let z = object_class_begun q.keyword 3 q.place q.begins in
          let fits : Fits k.token (Means word.Class) = rw z.0 at q.fits in
          let at_name : w.next ≡ reader (at.Name name.ObjectClass) 3 [] c = q.then ∙ ap (λ (place : Place). reader_at s place 3) z.1 in
          let a = class_back 3 [] c ts final (at_next _ _ ts final at_name w.read) in
          let inner = (length c.object_classes + 1) ∷ [] in
          let opened = with_object_class [] a.name c in
          let fewer : length a.tail.rest ≤ n = omega (arith, a.tail.fewer) in
          let body = object_body n 3 inner opened a.tail.rest final fewer (omega arith) a.tail.read in
          let declared = object_items_declare inner body.items opened in
          let behind : body.after ≡ reader (at.Between lists.ObjectClasses) 2 [] declared = ok_same _ _ _ body.closing (top_closes (length c.object_classes + 1) declared) in
          let fewer2 : length body.tail.rest ≤ n = omega (arith, a.tail.fewer, body.tail.fewer) in
          let others = object_classes_back n declared body.tail.rest final fewer2 (at_next _ _ body.tail.rest final behind body.tail.read) in
          let less : length others.tail.rest ≤ length (t ∷ k ∷ ts) = omega (arith, a.tail.fewer, body.tail.fewer, others.tail.fewer) in
          record {
            classes = TopClass a.name body.items others.classes;
            fit = (a.short, a.room, body.fit, others.fit);
            tail = record { rest = others.tail.rest; fewer = less; spelled = λ ss sp. (p.0, (fits, a.tail.spelled _ (body.tail.spelled _ (others.tail.spelled ss sp)))); read = others.tail.read };
          }
    ]

record InteractionClassesRead (c : CatalogueValue) (ts : List Lexed) (final : CatalogueValue) : Type 0 where
  classes : InteractionClasses
  fit : interaction_classes_fit classes c
  tail : Tail (λ ss. interaction_classes_then classes (RightParen ∷ ss)) ts (reader (at.Between lists.Parts) 1 [] (interaction_classes_declare classes c)) final

interactions_close : (c : CatalogueValue) → after_close (reader (at.Between lists.InteractionClasses) 2 [] c) ≡ Ok (reader (at.Between lists.Parts) 1 [] c)
unfolding after_close
interactions_close c = refl

top_interaction_closes : (n : ℕ) (c : CatalogueValue) → after_close (reader (at.Between lists.InteractionItems) 3 (n ∷ []) c) ≡ Ok (reader (at.Between lists.InteractionClasses) 2 [] c)
unfolding after_close
top_interaction_closes n c = refl

interaction_classes_back : (n : ℕ) (c : CatalogueValue) (ts : List Lexed) (final : CatalogueValue) → length ts ≤ n → reading (reader (at.Between lists.InteractionClasses) 2 [] c) ts ≡ Ok final → InteractionClassesRead c ts final
interaction_classes_back n c [] final few h = absurd (none_left (reader (at.Between lists.InteractionClasses) 2 [] c) final refl h)
interaction_classes_back zero c (t ∷ ts) final few h = absurd (omega arith)
interaction_classes_back (suc n) c (t ∷ []) final few h =
    let b = back (reader (at.Between lists.InteractionClasses) 2 [] c) t [] final refl h in
    elim (between_token t.token lists.InteractionClasses 2 [] c b.next b.step) [
      | inl p ↦ absurd (none_left (reader (at.Head head.InteractionClass) 3 [] c) final refl (at_next _ _ [] final p.2 b.read))
      | inr p ↦
          let behind : b.next ≡ reader (at.Between lists.Parts) 1 [] c = ok_same _ _ _ p.1 (interactions_close c) in
          record { classes = NoTop; fit = tt; tail = record { rest = []; fewer = omega arith; spelled = λ ss sp. (p.0, sp); read = at_next _ _ [] final behind b.read } }
    ]
interaction_classes_back (suc n) c (t ∷ k ∷ ts) final few h =
    let b = back (reader (at.Between lists.InteractionClasses) 2 [] c) t (k ∷ ts) final refl h in
    elim (between_token t.token lists.InteractionClasses 2 [] c b.next b.step) [
      | inr p ↦
          let behind : b.next ≡ reader (at.Between lists.Parts) 1 [] c = ok_same _ _ _ p.1 (interactions_close c) in
          record { classes = NoTop; fit = tt; tail = record { rest = k ∷ ts; fewer = omega arith; spelled = λ ss sp. (p.0, sp); read = at_next _ _ (k ∷ ts) final behind b.read } }
      | inl p ↦
          let s = reader (at.Between lists.InteractionClasses) 2 [] c in
          let w = back (reader_at s (at.Head head.InteractionClass) 3) k ts final refl (at_next _ _ (k ∷ ts) final p.2 b.read) in
          let q = head_token k.token head.InteractionClass 3 s w.next w.step in
          let z = interaction_class_begun q.keyword 3 q.place q.begins in
          let fits : Fits k.token (Means word.Class) = rw z.0 at q.fits in
          let at_name : w.next ≡ reader (at.Name name.InteractionClass) 3 [] c = q.then ∙ ap (λ (place : Place). reader_at s place 3) z.1 in
          let a = subclass_back 3 [] c ts final (at_next _ _ ts final at_name w.read) in
          let inner = (length c.interaction_classes + 1) ∷ [] in
          let opened = with_interaction_class [] a.name (transport_of a.options) (order_of a.options) c in
          let fewer : length a.tail.rest ≤ n = omega (arith, a.tail.fewer) in
          let body = interaction_body n 3 inner opened a.tail.rest final fewer (omega arith) a.tail.read in
          let declared = interaction_items_declare inner body.items opened in
          let behind : body.after ≡ reader (at.Between lists.InteractionClasses) 2 [] declared = ok_same _ _ _ body.closing (top_interaction_closes (length c.interaction_classes + 1) declared) in
          let fewer2 : length body.tail.rest ≤ n = omega (arith, a.tail.fewer, body.tail.fewer) in
          let others = interaction_classes_back n declared body.tail.rest final fewer2 (at_next _ _ body.tail.rest final behind body.tail.read) in
          let less : length others.tail.rest ≤ length (t ∷ k ∷ ts) = omega (arith, a.tail.fewer, body.tail.fewer, others.tail.fewer) in
          record {
            classes = ATop a.name a.options body.items others.classes;
            fit = (a.short, a.room, body.fit, others.fit);
            tail = record { rest = others.tail.rest; fewer = less; spelled = λ ss sp. (p.0, (fits, a.tail.spelled _ (body.tail.spelled _ (others.tail.spelled ss sp)))); read = others.tail.read };
          }
    ]

-- Parts and files.
label_token : (token : text.Token) (c : CatalogueValue) (next : Reader) → after_token (reader at.LabelEnd 2 [] c) token ≡ Ok next → Fits token RightParen × (next ≡ reader (at.Between lists.Parts) 1 [] c)
unfolding after_open after_close after_word after_quoted
label_token text.Open c next ok = cc
label_token text.Close c next ok = (tt, cc)
label_token (text.Word w) c next ok = cc
label_token (text.Quoted w) c next ok = cc
label_token text.Bad c next ok = cc
label_token text.Unclosed c next ok = cc
label_token text.End c next ok = cc

record LabelRead (c : CatalogueValue) (ts : List Lexed) (final : CatalogueValue) : Type 0 where
  name : List ℕ
  short : IsShort name
  tail : Tail (λ ss. Named name ∷ RightParen ∷ ss) ts (reader (at.Between lists.Parts) 1 [] c) final

label_named : (n : List ℕ) (c : CatalogueValue) (next : Reader) → after_name_at name.Label (reader (at.Name name.Label) 2 [] c) n ≡ Ok next → next ≡ reader at.LabelEnd 2 [] c
label_named n c next ok = cc

label_back : (c : CatalogueValue) (ts : List Lexed) (final : CatalogueValue) → reading (reader (at.Name name.Label) 2 [] c) ts ≡ Ok final → LabelRead c ts final
label_back c [] final h = absurd (none_left (reader (at.Name name.Label) 2 [] c) final refl h)
label_back c (t ∷ []) final h =
    let b = back (reader (at.Name name.Label) 2 [] c) t [] final refl h in
    let n = name_token t.token name.Label 2 [] c b.next b.step in
    let s = was_named name.Label (reader (at.Name name.Label) 2 [] c) b.next n.name n.named in
    absurd (none_left (reader at.LabelEnd 2 [] c) final refl (at_next _ _ [] final (label_named n.name c b.next s.1) b.read))
label_back c (t ∷ u ∷ ts) final h =
    let b = back (reader (at.Name name.Label) 2 [] c) t (u ∷ ts) final refl h in
    let n = name_token t.token name.Label 2 [] c b.next b.step in
    let s = was_named name.Label (reader (at.Name name.Label) 2 [] c) b.next n.name n.named in
    let e = back (reader at.LabelEnd 2 [] c) u ts final refl (at_next _ _ (u ∷ ts) final (label_named n.name c b.next s.1) b.read) in
    let p = label_token u.token c e.next e.step in
    record { name = n.name; short = s.0; tail = record { rest = ts; fewer = omega arith; spelled = λ ss sp. (n.fits, (p.0, sp)); read = at_next _ _ ts final p.1 e.read } }

data PartBegins (k : Keyword) (d : ℕ) (place : Place) : Type 0 where
  BeginsLabel : (keyword : k ≡ word.Label) (there : place ≡ at.Name name.Label) → PartBegins k d place
  BeginsIgnored : (keyword : k ≡ word.Ignored) (there : place ≡ at.Ignored within.File d) → PartBegins k d place
  BeginsObjects : (keyword : k ≡ word.Objects) (there : place ≡ at.Between lists.ObjectClasses) → PartBegins k d place
  BeginsInteractions : (keyword : k ≡ word.Interactions) (there : place ≡ at.Between lists.InteractionClasses) → PartBegins k d place

part_begun : (k : Keyword) (d : ℕ) (place : Place) → place_behind_keyword head.Part d (Some k) ≡ Some place → PartBegins k d place
part_begun word.Label d place h = BeginsLabel refl cc
part_begun word.Ignored d place h = BeginsIgnored refl cc
part_begun word.Objects d place h = BeginsObjects refl cc
part_begun word.Interactions d place h = BeginsInteractions refl cc
part_begun k d place h = cc

record PartsRead (c : CatalogueValue) (ts : List Lexed) (final : CatalogueValue) : Type 0 where
  parts : Parts
  fit : parts_fit parts c
  tail : Tail (λ ss. parts_then parts (RightParen ∷ ss)) ts (reader at.Done 0 [] (parts_declare parts c)) final

file_closes : (c : CatalogueValue) → after_close (reader (at.Between lists.Parts) 1 [] c) ≡ Ok (reader at.Done 0 [] c)
unfolding after_close
file_closes c = refl

parts_back : (n : ℕ) (c : CatalogueValue) (ts : List Lexed) (final : CatalogueValue) → length ts ≤ n → reading (reader (at.Between lists.Parts) 1 [] c) ts ≡ Ok final → PartsRead c ts final
parts_back n c [] final few h = absurd (none_left (reader (at.Between lists.Parts) 1 [] c) final refl h)
parts_back zero c (t ∷ ts) final few h = absurd (omega arith)
parts_back (suc n) c (t ∷ []) final few h =
    let b = back (reader (at.Between lists.Parts) 1 [] c) t [] final refl h in
    elim (between_token t.token lists.Parts 1 [] c b.next b.step) [
      | inl p ↦ absurd (none_left (reader (at.Head head.Part) 2 [] c) final refl (at_next _ _ [] final p.2 b.read))
      | inr p ↦
          let behind : b.next ≡ reader at.Done 0 [] c = ok_same _ _ _ p.1 (file_closes c) in
          record { parts = NoPart; fit = tt; tail = record { rest = []; fewer = omega arith; spelled = λ ss sp. (p.0, sp); read = at_next _ _ [] final behind b.read } }
    ]
parts_back (suc n) c (t ∷ k ∷ ts) final few h =
    let b = back (reader (at.Between lists.Parts) 1 [] c) t (k ∷ ts) final refl h in
    elim (between_token t.token lists.Parts 1 [] c b.next b.step) [
      | inr p ↦
          let behind : b.next ≡ reader at.Done 0 [] c = ok_same _ _ _ p.1 (file_closes c) in
          record { parts = NoPart; fit = tt; tail = record { rest = k ∷ ts; fewer = omega arith; spelled = λ ss sp. (p.0, sp); read = at_next _ _ (k ∷ ts) final behind b.read } }
      | inl p ↦
          let s = reader (at.Between lists.Parts) 1 [] c in
          let w = back (reader_at s (at.Head head.Part) 2) k ts final refl (at_next _ _ (k ∷ ts) final p.2 b.read) in
          let q = head_token k.token head.Part 2 s w.next w.step in
          let few_left : length ts ≤ n = omega arith in
          elim (part_begun q.keyword 2 q.place q.begins) [
            | BeginsLabel kw there ↦
                let fits : Fits k.token (Means word.Label) = rw kw at q.fits in
                let a = label_back c ts final (at_next _ _ ts final (q.then ∙ ap (λ (place : Place). reader_at s place 2) there) w.read) in
                let fewer : length a.tail.rest ≤ n = omega (arith, a.tail.fewer) in
                let others = parts_back n c a.tail.rest final fewer a.tail.read in
                let less : length others.tail.rest ≤ length (t ∷ k ∷ ts) = omega (arith, a.tail.fewer, others.tail.fewer) in
                record {
                  parts = ALabel a.name others.parts;
                  fit = (a.short, others.fit);
                  tail = record { rest = others.tail.rest; fewer = less; spelled = λ ss sp. (p.0, (fits, a.tail.spelled _ (others.tail.spelled ss sp))); read = others.tail.read };
                }
            | BeginsIgnored kw there ↦
                let fits : Fits k.token (Means word.Ignored) = rw kw at q.fits in
                let a = list_back s within.File 1 ts final (at_next _ _ ts final (q.then ∙ ap (λ (place : Place). reader_at s place 2) there) w.read) in
                let fewer : length a.tail.rest ≤ n = omega (arith, a.tail.fewer) in
                let others = parts_back n c a.tail.rest final fewer a.tail.read in
                let less : length others.tail.rest ≤ length (t ∷ k ∷ ts) = omega (arith, a.tail.fewer, others.tail.fewer) in
                record {
                  parts = AnIgnored a.ignored others.parts;
                  fit = (a.fit, others.fit);
                  tail = record { rest = others.tail.rest; fewer = less; spelled = λ ss sp. (p.0, (fits, a.tail.spelled _ (others.tail.spelled ss sp))); read = others.tail.read };
                }
            | BeginsObjects kw there ↦
                let fits : Fits k.token (Means word.Objects) = rw kw at q.fits in
                let a = object_classes_back n c ts final few_left (at_next _ _ ts final (q.then ∙ ap (λ (place : Place). reader_at s place 2) there) w.read) in
                let fewer : length a.tail.rest ≤ n = omega (arith, a.tail.fewer) in
                let others = parts_back n (object_classes_declare a.classes c) a.tail.rest final fewer a.tail.read in
                let less : length others.tail.rest ≤ length (t ∷ k ∷ ts) = omega (arith, a.tail.fewer, others.tail.fewer) in
                record {
                  parts = Objects a.classes others.parts;
                  fit = (a.fit, others.fit);
                  tail = record { rest = others.tail.rest; fewer = less; spelled = λ ss sp. (p.0, (fits, a.tail.spelled _ (others.tail.spelled ss sp))); read = others.tail.read };
                }
            | BeginsInteractions kw there ↦
                let fits : Fits k.token (Means word.Interactions) = rw kw at q.fits in
                let a = interaction_classes_back n c ts final few_left (at_next _ _ ts final (q.then ∙ ap (λ (place : Place). reader_at s place 2) there) w.read) in
                let fewer : length a.tail.rest ≤ n = omega (arith, a.tail.fewer) in
                let others = parts_back n (interaction_classes_declare a.classes c) a.tail.rest final fewer a.tail.read in
                let less : length others.tail.rest ≤ length (t ∷ k ∷ ts) = omega (arith, a.tail.fewer, others.tail.fewer) in
                record {
                  parts = Interactions a.classes others.parts;
                  fit = (a.fit, others.fit);
                  tail = record { rest = others.tail.rest; fewer = less; spelled = λ ss sp. (p.0, (fits, a.tail.spelled _ (others.tail.spelled ss sp))); read = others.tail.read };
                }
          ]
    ]

start_token : (token : text.Token) (next : Reader) → after_token start token ≡ Ok next → Fits token LeftParen × (next ≡ reader (at.Head head.File) 1 [] empty_catalogue)
unfolding after_open after_close after_word after_quoted
start_token text.Open next ok = (tt, cc)
start_token text.Close next ok = cc
start_token (text.Word w) next ok = cc
start_token (text.Quoted w) next ok = cc
start_token text.Bad next ok = cc
start_token text.Unclosed next ok = cc
start_token text.End next ok = cc

file_begun : (k : Keyword) (d : ℕ) (place : Place) → place_behind_keyword head.File d (Some k) ≡ Some place → (k ≡ word.Fed) × (place ≡ at.Between lists.Parts)
file_begun word.Fed d place h = (refl, cc)
file_begun k d place h = cc

done_token : (token : text.Token) (c : CatalogueValue) (next : Reader) → after_token (reader at.Done 0 [] c) token ≡ Ok next → ⊥
unfolding after_open after_close after_word after_quoted
done_token text.Open c next ok = cc
done_token text.Close c next ok = cc
done_token (text.Word w) c next ok = cc
done_token (text.Quoted w) c next ok = cc
done_token text.Bad c next ok = cc
done_token text.Unclosed c next ok = cc
done_token text.End c next ok = cc

done_back : (c : CatalogueValue) (ts : List Lexed) (final : CatalogueValue) → reading (reader at.Done 0 [] c) ts ≡ Ok final → Spells ts (TheEnd ∷ []) × (c ≡ final)
unfolding reading
done_back c [] final h = cc
done_back c (t ∷ ts) final h = at_end t.token t.line (after_token (reader at.Done 0 [] c) t.token) refl h
  where
    at_end : (token : text.Token) (line : ℕ) (r : Step) → after_token (reader at.Done 0 [] c) token ≡ r
        → cond (is_end token) (Ok c) (outcome_after line r (λ s'. reading s' ts)) ≡ Ok final → Fits token TheEnd × (c ≡ final)
    at_end text.End line r e h = (tt, cc)
    at_end token line (Ok s') e h = absurd (done_token token c s' e)
    at_end token line (Err k) e h = cc

file_back : (ts : List Lexed) (final : CatalogueValue) → reading start ts ≡ Ok final → (p : Parts) × Spells ts (file_of p) × parts_fit p empty_catalogue × (parts_declare p empty_catalogue ≡ final)
file_back [] final h = absurd (none_left start final refl h)
file_back (t ∷ []) final h =
    let b = back start t [] final refl h in
    let p = start_token t.token b.next b.step in
    absurd (none_left (reader (at.Head head.File) 1 [] empty_catalogue) final refl (at_next _ _ [] final p.1 b.read))
file_back (t ∷ k ∷ ts) final h =
    let b = back start t (k ∷ ts) final refl h in
    let p = start_token t.token b.next b.step in
    let w = back (reader_at start (at.Head head.File) 1) k ts final refl (at_next _ _ (k ∷ ts) final p.1 b.read) in
    let q = head_token k.token head.File 1 start w.next w.step in
    let z = file_begun q.keyword 1 q.place q.begins in
    let fits : Fits k.token (Means word.Fed) = rw z.0 at q.fits in
    let a = parts_back (length ts) empty_catalogue ts final (omega arith) (at_next _ _ ts final (q.then ∙ ap (λ (place : Place). reader_at start place 1) z.1) w.read) in
    let e = done_back (parts_declare a.parts empty_catalogue) a.tail.rest final a.tail.read in
    (a.parts, (p.0, (fits, a.tail.spelled _ e.0)), a.fit, e.1)

short_text : (bytes : List ℕ) (b : Bool) (r : Outcome) (c : CatalogueValue) → nat_lt max_fed_file (length bytes) ≡ b → cond b (Err (record { line = 1; kind = kind.TooLarge })) r ≡ Ok c → (length bytes ≤ max_fed_file) × (r ≡ Ok c)
short_text bytes true r c h ok = cc
short_text bytes false r c h ok = let few : length bytes ≤ max_fed_file = grind (arith, nat_tests) in (few, ok)

-- what is read is what the grammar relates to the text
pub read_described : (text : List ℕ) (c : CatalogueValue) → reading_of text ≡ Ok c → Describes text c
unfolding reading_of
read_described text c ok =
    let s = short_text text (nat_lt max_fed_file (length text)) (reading start (tokens text)) c refl ok in
    let f = file_back (tokens text) c s.1 in
    record { parts = f.0; is_file = f.1; short = s.0; fits = f.2; declares = f.3 }

pub ruleset sound = (read_described)
