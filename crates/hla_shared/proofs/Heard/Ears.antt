-- What one ear's change does to the tables of what is heard and of whose it is.
use Rattle.std.proofs.Common.{◌≡◌, ◌≢◌, ℕ, ◌<◌, eqb, cond, Bool, true, false, List, [], ◌∷◌, ◌++◌, length, Option, Some, None, option_map, set, get_or, refl, sym, ◌∙◌, ap, arith}
use Rattle.std.specs.Prelude.{slice_get}
use Rattle.std.proofs.lemmas.Bool.Decides.{nat_tests}
use Rattle.std.proofs.lemmas.List.{map-set, get_or-set_same, get_or-set_other}
use Rattle.std.proofs.lemmas.Option.{slice_get-get_or, slice_get-map, get_or_from_slice_get, slice_get_within}
use Rattle.std.proofs.Math.Seq.{map-set_same}
use Rattle.std.proofs.Math.ListN.{length-set}
use Rattle.hla_base.specs.Tables.{upd}
use Rattle.hla_callbacks.specs.declared.callback.Callback.{Callback}
use Rattle.hla_callbacks.specs.Hearing.{Hearing}
use Rattle.hla_history.specs.Hosting.{heard_in, heard_of, heard_table, tag_in, tags_of}
use Rattle.hla_history.proofs.Records.{at_set}

set_point : {X : Type 0} (hs : List (Option X)) (f : ℕ) (t : Option X) → f < length hs
    → (g : ℕ) (b : Bool) → eqb f g ≡ b → get_or (set hs f t) g None ≡ cond b t (get_or hs g None)
set_point hs f t lt g true test =
    let same : f ≡ g = grind (arith, nat_tests) in
    ap (λ n. get_or (set hs f t) n None) (sym same) ∙ get_or-set_same hs f t None lt
set_point hs f t lt g false test =
    let apart : f ≢ g = λ e. (let p : eqb f g ≡ true = grind (arith, nat_tests) in cc) in
    get_or-set_other hs f g t None (λ e. apart (sym e))

-- the table with another entry at f
pub table_set : {X : Type 0} (hs : List (Option X)) (f : ℕ) (t : Option X) → f < length hs → (λ (g : ℕ). get_or (set hs f t) g None) ≡ upd (λ (g : ℕ). get_or hs g None) f t
unfolding upd
table_set hs f t lt = λ i g. set_point hs f t lt g (eqb f g) refl i

pub gives : (xs : List (Option Hearing)) (f : ℕ) (v : Option Hearing) (e e' : Hearing) (k : Callback)
    → f < length xs → v ≡ Some e → v ≡ get_or xs f v → e'.heard ≡ e.heard ++ k ∷ []
    → heard_table (heard_of (set xs f (Some e'))) ≡ upd (heard_table (heard_of xs)) f (option_map (λ (ks : List Callback). ks ++ k ∷ []) (heard_table (heard_of xs) f))
gives xs f v e e' k lt is at grows =
    let there : slice_get xs f ≡ Some (Some e) = slice_get-get_or xs f v lt ∙ ap (λ z. Some z) (sym at ∙ is) in
    let seen : slice_get (heard_of xs) f ≡ Some (Some e.heard) = slice_get-map heard_in xs f ∙ rw there refl in
    let old : heard_table (heard_of xs) f ≡ Some e.heard = get_or_from_slice_get (heard_of xs) f (Some e.heard) None seen in
    let within : f < length (heard_of xs) = slice_get_within _ _ _ seen in
    ap heard_table (map-set heard_in xs f (Some e')) ∙ table_set (heard_of xs) f (Some e'.heard) within
    ∙ ap (λ (o : Option (List Callback)). upd (heard_table (heard_of xs)) f o) (ap (λ (ks : List Callback). Some ks) grows ∙ sym (ap (λ (o : Option (List Callback)). option_map (λ (ks : List Callback). ks ++ k ∷ []) o) old))

pub same_heard : (xs : List (Option Hearing)) (f : ℕ) (v : Option Hearing) (e e' : Hearing)
    → v ≡ Some e → v ≡ get_or xs f v → e'.heard ≡ e.heard → heard_of (set xs f (Some e')) ≡ heard_of xs
same_heard xs f v e e' is at same =
    map-set_same heard_in xs f (Some e') v (ap (λ h. Some h) same ∙ ap heard_in (sym is) ∙ ap heard_in at)

pub same_tags : (xs : List (Option Hearing)) (f : ℕ) (v : Option Hearing) (e e' : Hearing)
    → v ≡ Some e → v ≡ get_or xs f v → e'.tag ≡ e.tag → tags_of (set xs f (Some e')) ≡ tags_of xs
same_tags xs f v e e' is at same =
    map-set_same tag_in xs f (Some e') v (ap (λ n. Some n) same ∙ ap tag_in (sym is) ∙ ap tag_in at)

pub room_at : (xs : List (Option Hearing)) (f : ℕ) (e e' : Hearing) → f < length xs → e'.room ≡ true
    → slice_get (set xs f (Some e')) f ≡ Some (Some e) → e.room ≡ true
room_at xs f e e' lt room is = let at : slice_get (set xs f (Some e')) f ≡ Some (Some e') = at_set xs f (Some e') lt in cc

pub none_at : (xs : List (Option Hearing)) (f : ℕ) (v : Option Hearing) (e : Hearing) → f < length xs → v ≡ None
    → slice_get (set xs f v) f ≡ Some (Some e) → e.room ≡ true
none_at xs f v e lt none is = let at : slice_get (set xs f v) f ≡ Some v = at_set xs f v lt in cc

-- an ear taken out, or not
pub cleared : (xs : List (Option Hearing)) (f : ℕ) (v : Option Hearing) (b : Bool) → v ≡ None → b ≡ true → heard_of (set xs f v) ≡ cond b (set (heard_of xs) f None) (heard_of xs)
cleared xs f v b is out =
    ap (λ (o : Option Hearing). heard_of (set xs f o)) is ∙ map-set heard_in xs f None
    ∙ sym (ap (λ (t : Bool). cond t (set (heard_of xs) f None) (heard_of xs)) out)

pub cleared_tags : (xs : List (Option Hearing)) (f : ℕ) (v : Option Hearing) (b : Bool) → v ≡ None → b ≡ true → tags_of (set xs f v) ≡ cond b (set (tags_of xs) f None) (tags_of xs)
cleared_tags xs f v b is out =
    ap (λ (o : Option Hearing). tags_of (set xs f o)) is ∙ map-set tag_in xs f None
    ∙ sym (ap (λ (t : Bool). cond t (set (tags_of xs) f None) (tags_of xs)) out)
