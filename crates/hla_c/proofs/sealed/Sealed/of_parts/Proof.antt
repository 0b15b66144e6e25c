-- `of_parts` moves the pointer, and what it owns goes with it.
use mathlib.Core.Path.{◌≡◌, refl, sym, subst, ap, ◌∙◌}
use mathlib.Core.List.{List, [], ◌∷◌, ◌++◌}
use seplogic.Ra.Ura.{Ura}
use Prim.Native.Nat.{ℕ}
use mir.Val.{Val, vptr, vstruct, vcons, vnil, of_list}
use base.Logic.{SProp, ent, emp, never, fst∗}
use base.Fml.{ftrue, fsep}
use prog.Memory.{Memory}
use prog.Routine.{Routine}
use prog.Wp.{WpFn, Tables}
use types.Logic.{Logic, sem}
use contract.Monad.{Fun}
use contract.Running.{tables, tables_of}
use sound.WpLaws.{WpFn-mono}
use types.Kit.{keep, Item, ‵, raw, ◌⊛◌, ◌$◌, ◌∵◌, !, qed, by, move, drop, join, split, fsplit, fjoin, fpick, fpack, feq_l, feq_i, suffices, done}
use types.Part.{whole, sub, agg}
use types.Run.{stop, fld, no_more, and_then, of_opd, returns, enter}
use types.ByLocal.{alloc_all, pass_all, free_all, look_at, get, get_in, sets}
use denote.Exit.{yes}
use denote.RattleType.{Valss}
use denote.RawPtr.{Ptr, RawPtr, block_ptr, null_ptr, ptr_val, in_a_block}
use denote.Signature.{plain}
use denote.Steps.{nothing}
use denote.Struct.Struct.{within}
use denote.Struct.Owning.{shape}
use denote.Triple.Spec.{triple_of}
use denote.Triple.Table.{entered}
use denote.Triple.Walked.{says, Stays, stay_dropped, walk_of, ends_at, Goes-dropped, walk_Meets}
use Rattle.std.specs.Prelude.{Some}
use Rattle.hla_c.specs.contracts.content.Content as Content
use Rattle.hla_c.specs.contracts.parts.Parts as Parts
use Rattle.hla_c.specs.contracts.sealed.Sealed as Sealed
use Rattle.std.specs.Box.Ownership.{box_owns}
use Rattle.hla_c.specs.Held.{token}
use mir.Raw.{raw as bare}
use denote.Memory.{lone}
use Rattle.hla_c.specs.contracts.sealed.Sealed.of_parts as f
use Rattle.hla_c.specs.contracts.sealed.Sealed.of_parts.Key.{name as #self}
use Rattle.hla_c.proofs.sealed.Sealed.of_parts.Statement.{statement}
use Rattle.hla_c.proofs.sealed.Sealed.of_parts.Code as code

abbrev word : ℕ → ℕ → Val
word b o = vstruct (vcons (vptr b o) vnil)

abbrev stayed : Stays f.ended.signature.params f.ended.kept
stayed = (stay_dropped (plain (λ _. Parts.the_row Content.the_row)) yes, tt)

module _ {M : Type 1} {𝓤 : Ura M} (𝓛 : Logic 𝓤) (at_mem : Memory → SProp 𝓤) (run : Routine → Fun 𝓤) (𝓣 : Tables 𝓤 𝓛.H) where
  open 𝓛 use {H}

  walk : (z : (walk_of 𝓛 f.ended stayed (f.clauses 𝓛 at_mem run)).Ghost)
      → ent 𝓤 ((walk_of 𝓛 f.ended stayed (f.clauses 𝓛 at_mem run)).pre z) (WpFn 𝓤 H 𝓣.C 𝓣.Λ code.function (z.0.4.0 ++ []) ((walk_of 𝓛 f.ended stayed (f.clauses 𝓛 at_mem run)).post z))
  walk z =
      let p = z.0.3.0.at in let x = z.0.3.0.value in let Post = (walk_of 𝓛 f.ended stayed (f.clauses 𝓛 at_mem run)).post z in
      qed 𝓛 ((‵ ftrue ⊛ ‵ (fsep ((Parts.the_row Content.the_row).own_val z.0.3.0 z.0.4.0) ftrue)) ∷ raw (emp 𝓤) ∷ []) ∵ split ! $ drop ! $ fsplit ! $ fsplit ! $
      fpick ! (λ vss. fsplit ! $ feq_l ! (λ ev. fsplit ! $ feq_l ! (λ ep. drop ! $
      in_a_block ! p (λ q. box_owns token Content.the_row q x) (fst∗ 𝓤 (never 𝓤) (sem 𝓛 (token (bare (lone Content.the_row.mir)) null_ptr))) (λ b o e.
      let w : Val = word b o in
      let made : Sealed.the_row.Denot = record { at = block_ptr b o; content = Some x } in
      let ws : z.0.4.0 ≡ w ∷ [] = ev ∙ ap (λ (us : List Val). vstruct (of_list (us ++ [])) ∷ []) (ep ∙ ap (λ (q : Ptr). ptr_val q ∷ []) e) in
      let Γ : List (Item 𝓤) = ‵ (box_owns token Content.the_row (block_ptr b o) x) ∷ ‵ ftrue ∷ raw (emp 𝓤) ∷ [] in
      by ! (subst (λ (us : List Val). ent 𝓤 (types.Kit.⋆ 𝓛 Γ) (WpFn 𝓤 H 𝓣.C 𝓣.Λ code.function (us ++ []) Post)) (sym ws)
      (qed 𝓛 Γ ∵ enter ! 𝓣.C 𝓣.Λ code.function (w ∷ []) _ $ alloc_all ! (λ ls. pass_all ! refl ((tt, (tt, tt)), tt) $
      sets ! (of_opd ! (get_in ! (fld ! refl (stop !)) (sub ! 0 refl (whole !)))) refl (tt, tt) $ sets ! (of_opd ! (get ! refl)) refl (tt, tt) $
      sets ! (agg ! (and_then ! (get ! refl) (no_more !))) refl (tt, (tt, tt)) $ returns ! (look_at ! 0 refl) $ free_all ! refl $
      nothing ! $ feq_i ! (List Val) (vptr b o ∷ []) (vptr b o ∷ []) refl $ fjoin ! $ feq_i ! (List Val) (w ∷ []) (w ∷ []) refl $ fjoin ! $
      fpack ! (Valss (RawPtr ∷ [])) (within (shape Sealed.the_type) (block_ptr b o, tt) (w ∷ [])) (vptr b o ∷ [], tt) $ fjoin ! $ keep ! (0 ∷ []) $
      suffices ! _ (ends_at 𝓛 f.ended stayed (f.clauses 𝓛 at_mem run) z w made (tt, tt) (tt, tt)) $ says ! refl $
      nothing ! $ nothing ! $ fjoin ! $ join ! $ nothing ! $ join ! $ done !)))))))

pub of_parts_spec : {M : Type 1} → statement M
unfolding tables_of
of_parts_spec 𝓤 𝓛 𝓜 𝓡 wired =
    let 𝓣 : Tables 𝓤 𝓛.H = tables_of 𝓤 𝓛.H 𝓜 (tables 𝓤 𝓛.H 𝓜 𝓡 𝓡.env) in
    entered 𝓤 𝓛.H (triple_of 𝓛 f.signature (f.spec 𝓛 𝓜.mem 𝓡.returns)) 𝓣.C 𝓣.Λ #self code.function (code.unfolded 𝓤 𝓛.H 𝓜 𝓡 wired)
    (walk_Meets 𝓛 f.ended stayed (Goes-dropped 𝓛 0 (plain (λ _. Parts.the_row Content.the_row)) yes (λ κs x w. refl), tt) (f.clauses 𝓛 𝓜.mem 𝓡.returns) (WpFn 𝓤 𝓛.H 𝓣.C 𝓣.Λ code.function) (WpFn-mono 𝓤 𝓛.H 𝓛.laws 𝓣 code.function)
    (walk 𝓛 𝓜.mem 𝓡.returns 𝓣))
