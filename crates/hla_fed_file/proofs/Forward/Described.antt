-- What is in the grammar is read.
use Rattle.hla_base.specs.Limits.{max_fed_file}
use Rattle.std.proofs.Common.{◌≡◌, ℕ, false, List, [], ◌∷◌, length, Ok, nat_lt, refl, ap, ◌∙◌, arith, le-ltb}
use Rattle.hla_fed_file.specs.Lexical as text
use Rattle.hla_fed_file.specs.Lexical.{Lexed, tokens}
use Rattle.hla_catalogue.specs.CatalogueValue.{CatalogueValue, empty_catalogue}
use Rattle.hla_fed_file.specs.Reading.{reading, after_open, after_close, after_word, start, reading_of}
use Rattle.hla_fed_file.specs.Grammar.{Symbol, TheEnd, Fits, Spells, Parts, NoPart, ALabel, AnIgnored, Objects, Interactions, parts_then, file_of, object_classes_declare, interaction_classes_declare, parts_declare, parts_fit, Describes}
use Rattle.hla_fed_file.specs.declared.place.Keyword.TheVariants as word
use Rattle.hla_fed_file.specs.declared.place.Head.TheVariants as head
use Rattle.hla_fed_file.specs.declared.place.NameOf.TheVariants as name
use Rattle.hla_fed_file.specs.declared.place.Lists.TheVariants as lists
use Rattle.hla_fed_file.specs.declared.place.Within.TheVariants as within
use Rattle.hla_fed_file.specs.declared.place.Place.TheVariants as at
use Rattle.hla_fed_file.proofs.Forward.ReadSteps.{ReadsSymbols, keyword_read, left_read, list_read, name_read, reader, right_read}
use Rattle.hla_fed_file.proofs.Forward.ReadObjects.{begin_read, item_opens, object_classes_read}
use Rattle.hla_fed_file.proofs.Forward.ReadInteractions.{interaction_classes_read}

-- Parts and files.
parts_read : (p : Parts) (c : CatalogueValue) (ts : List Lexed) (ss : List Symbol) → parts_fit p c → Spells ts (parts_then p ss) → ReadsSymbols (reader (at.Between lists.Parts) 1 [] c) (reader (at.Between lists.Parts) 1 [] (parts_declare p c)) ts ss
unfolding after_close
parts_read NoPart c ts ss fit sp = record { rest = ts; spelled = sp; same = refl }
parts_read (ALabel n others) c ts ss fit sp =
    let a = begin_read word.Label lists.Parts (at.Name name.Label) 1 [] c ts _ (omega arith) refl sp in
    let b = name_read name.Label n 2 [] c (reader at.LabelEnd 2 [] c) a.rest _ fit.0 refl a.spelled in
    let e = right_read _ (reader (at.Between lists.Parts) 1 [] c) b.rest _ refl b.spelled in
    let r = parts_read others c e.rest ss fit.1 e.spelled in
    record { rest = r.rest; spelled = r.spelled; same = a.same ∙ b.same ∙ e.same ∙ r.same }
parts_read (AnIgnored inner others) c ts ss fit sp =
    let a = list_read word.Ignored head.Part within.File inner (at.Between lists.Parts) (reader (at.Between lists.Parts) 1 [] c) 1 ts _ (item_opens 1 [] c lists.Parts (omega arith)) refl fit.0 sp in
    let r = parts_read others c a.rest ss fit.1 a.spelled in
    record { rest = r.rest; spelled = r.spelled; same = a.same ∙ r.same }
parts_read (Objects classes others) c ts ss fit sp =
    let a = begin_read word.Objects lists.Parts (at.Between lists.ObjectClasses) 1 [] c ts _ (omega arith) refl sp in
    let k = object_classes_read classes c a.rest _ fit.0 a.spelled in
    let declared = object_classes_declare classes c in
    let e = right_read _ (reader (at.Between lists.Parts) 1 [] declared) k.rest _ refl k.spelled in
    let r = parts_read others declared e.rest ss fit.1 e.spelled in
    record { rest = r.rest; spelled = r.spelled; same = a.same ∙ k.same ∙ e.same ∙ r.same }
parts_read (Interactions classes others) c ts ss fit sp =
    let a = begin_read word.Interactions lists.Parts (at.Between lists.InteractionClasses) 1 [] c ts _ (omega arith) refl sp in
    let k = interaction_classes_read classes c a.rest _ fit.0 a.spelled in
    let declared = interaction_classes_declare classes c in
    let e = right_read _ (reader (at.Between lists.Parts) 1 [] declared) k.rest _ refl k.spelled in
    let r = parts_read others declared e.rest ss fit.1 e.spelled in
    record { rest = r.rest; spelled = r.spelled; same = a.same ∙ k.same ∙ e.same ∙ r.same }

end_read : (d : ℕ) (c : CatalogueValue) (ts : List Lexed) → Spells ts (TheEnd ∷ []) → reading (reader at.Done d [] c) ts ≡ Ok c
unfolding reading
end_read d c [] sp = absurd sp
end_read d c (t ∷ ts) sp = ends_there t.token t.line ts sp
  where
    ends_there : (token : text.Token) (line : ℕ) (ts : List Lexed) → Fits token TheEnd → reading (reader at.Done d [] c) (record { line = line; token = token } ∷ ts) ≡ Ok c
    ends_there text.End line ts h = refl
    ends_there token line ts h = absurd h

file_read : (p : Parts) (ts : List Lexed) → parts_fit p empty_catalogue → Spells ts (file_of p) → reading start ts ≡ Ok (parts_declare p empty_catalogue)
unfolding after_open after_close after_word
file_read p ts fit sp =
    let a = left_read start (reader (at.Head head.File) 1 [] empty_catalogue) ts _ refl sp in
    let b = keyword_read word.Fed (reader (at.Head head.File) 1 [] empty_catalogue) (reader (at.Between lists.Parts) 1 [] empty_catalogue) a.rest _ (λ w h. rw h refl) a.spelled in
    let k = parts_read p empty_catalogue b.rest _ fit b.spelled in
    let c = parts_declare p empty_catalogue in
    let e = right_read (reader (at.Between lists.Parts) 1 [] c) (reader at.Done 0 [] c) k.rest _ refl k.spelled in
    a.same ∙ b.same ∙ k.same ∙ e.same ∙ end_read 0 c e.rest e.spelled

-- what the grammar relates to a catalogue is read as that one
pub described_read : (text : List ℕ) (c : CatalogueValue) → Describes text c → reading_of text ≡ Ok c
unfolding reading_of
described_read text c d =
    let small : nat_lt max_fed_file (length text) ≡ false = le-ltb _ _ d.short in
    rw small (file_read d.parts (tokens text) d.fits d.is_file ∙ ap (λ (x : CatalogueValue). Ok x) d.declares)
