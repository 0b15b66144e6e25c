-- `into_box` hands what is owned behind the pointer to `from_raw`.
use mathlib.Core.Path.{◌≡◌, refl, sym, subst, ap, ◌∙◌}
use mathlib.Core.Bool.{false≢true}
use mathlib.Core.List.{List, [], ◌∷◌, ◌++◌}
use Prim.Native.Nat.{ℕ}
use lib.Dec.{T}
use seplogic.Ra.Ura.{Ura}
use base.Fraction.{full_share}
use mir.Syntax.{Body, place, copy, assign, rv_opd, seq, return}
use mir.Raw.{raw as bare}
use mir.Val.{Val, vptr, vstruct, vcons, vnil, of_list, has_ty, WT}
use base.Logic.{SProp, ent, emp, id⊢, never, fst∗}
use base.Fml.{ftrue, fsep, flft}
use contract.BorrowLft.{◌⊑◌, ⊑_static}
use prog.Memory.{Memory}
use prog.Routine.{Routine}
use prog.Wp.{WpFn, Tables}
use types.Logic.{Logic, sem}
use contract.Monad.{Fun, fact, fact_i}
use contract.Running.{tables, tables_of}
use sound.WpLaws.{fm_of, WpFn-mono}
use types.Kit.{Item, at_ret, ‵, raw, ◌⊛◌, some, later, ◌$◌, ◌∵◌, !, qed, by, move, keep, drop, use0, use1, join, split, split3, pick, rewrite, fsplit, fjoin, fpick, feq_l, feq_i, suffices, await, done}
use types.Part.{whole, sub}
use types.Run.{stop, fld, no_more, and_then, of_opd, returns, enter, first, blocks, exec}
use types.ByLocal.{alloc_all, pass_all, free_all, look_at, get, get_in, sets, lands_last, env}
use types.Tokens.{lft_new}
use denote.Exit.{yes}
use denote.Memory.{lone}
use denote.Param.NoDrop.{glues}
use denote.RawPtr.{Ptr, block_ptr, null_ptr, ptr_val, in_a_block}
use denote.Triple.Entry.{on_entry}
use denote.Signature.{plain}
use denote.Steps.{heard, nothing, only}
use denote.Triple.Call.{calls_at_last}
use denote.Triple.Spec.{triple_of}
use denote.Triple.Statement.{Triple, Contract}
use denote.Triple.Table.{entered}
use denote.Triple.Walked.{says, Stays, stay_dropped, walk_of, ends_at, Goes-dropped, walk_Meets}
use Rattle.core.proofs.alloc.Calls.{handle_tells}
use Rattle.std.specs.Prelude.{Option, Some, None, IsSome}
use Rattle.std.specs.Box.Ownership.{box_owns}
use Rattle.hla_c.specs.Held.{token}
use Rattle.std_alloc.proofs.BoxSteps.Form.{Bx, D, B, args, box_ty, box_typed}
use Rattle.std_alloc.proofs.BoxSteps.Steps.{box_out, box_in}
use Rattle.std_alloc.specs.contracts.boxed.Box.from_raw as Fr
use Rattle.std_alloc.proofs.boxed.Box.from_raw.Symbol as raw_sym
use Rattle.std_alloc.proofs.boxed.Box.from_raw.Met as raw_met
use Rattle.std_heap.specs.contracts.Global as Heap
use Rattle.std_heap.specs.contracts.GlobalAllocator.TheImpl.{ghosts, dict}
use Rattle.std_heap.proofs.GlobalAllocator.TheImpl.Met as heap_met
use Rattle.hla_c.specs.contracts.content.Content as Content
use Rattle.hla_c.proofs.Destruct++none.drop.Code as no_drop_code
use Rattle.hla_c.proofs.AsBox.{Box_of, no_drop, S, LS, H as HR, LH}
use Rattle.hla_c.specs.contracts.sealed.Sealed as Sealed
use Rattle.hla_c.specs.contracts.sealed.Sealed.into_box as f
use Rattle.hla_c.specs.contracts.sealed.Sealed.into_box.Key.{name as #self}
use Rattle.hla_c.proofs.sealed.Sealed.into_box.Statement.{statement}
use Rattle.hla_c.proofs.sealed.Sealed.into_box.Code as code

abbrev E : Bx
E = Box_of S LS

abbrev word : ℕ → ℕ → Val
word b o = vstruct (vcons (vptr b o) vnil)

abbrev stayed : Stays f.ended.signature.params f.ended.kept
stayed = (stay_dropped (plain (λ _. Sealed.the_row)) yes, (stay_dropped (plain (λ _. Heap.the_row)) yes, tt))

abbrev rest : Body
rest = seq (assign (place 0 []) (rv_opd (copy (place 4 [])))) return

module _ {M : Type 1} {𝓤 : Ura M} (𝓛 : Logic 𝓤) (at_mem : Memory → SProp 𝓤) (run : Routine → Fun 𝓤) (𝓣 : Tables 𝓤 𝓛.H) where
  open 𝓛 use {H}

  abbrev Shuts : Contract 𝓤
  Shuts = triple_of 𝓛 (Fr.signature E.row E.al.row E.al.g E.al.d E.al.drops) (Fr.spec E.row E.al.row E.al.g E.al.d E.al.drops 𝓛 at_mem run)

  module _ (kn : Triple 𝓤 (𝓣.C (raw_sym.name (args E))) Shuts) (h : Heap.the_row.Denot) (us vs : List Val) where
    abbrev at : Ptr → Option Content.the_row.Denot → (walk_of 𝓛 f.ended stayed (f.clauses 𝓛 at_mem run)).Ghost
    at p m = ((tt, tt, tt, (record { at = p; content = m }, (h, tt)), (us, (vs, tt))), tt)

    abbrev Goal : Ptr → Option Content.the_row.Denot → Type 1
    Goal p m = ent 𝓤 ((walk_of 𝓛 f.ended stayed (f.clauses 𝓛 at_mem run)).pre (at p m)) (WpFn 𝓤 H 𝓣.C 𝓣.Λ code.function (us ++ (vs ++ [])) ((walk_of 𝓛 f.ended stayed (f.clauses 𝓛 at_mem run)).post (at p m)))

    full : (p : Ptr) (x : Content.the_row.Denot) → Goal p (Some x)
    full p x =
        let z = at p (Some x) in let Post = (walk_of 𝓛 f.ended stayed (f.clauses 𝓛 at_mem run)).post z in
        qed 𝓛 ((‵ ftrue ⊛ ‵ (fsep (Sealed.the_row.own_val (record { at = p; content = Some x }) us) (fsep (Heap.the_row.own_val h vs) ftrue))) ∷ raw (fact 𝓤 (IsSome (Some x))) ∷ []) ∵
        split ! $ drop ! $ fsplit ! $ fsplit ! $ fpick ! (λ vss. fsplit ! $ feq_l ! (λ ev. fsplit ! $ feq_l ! (λ ep. drop ! $
        in_a_block ! p (λ q. box_owns token Content.the_row q x) (fst∗ 𝓤 (never 𝓤) (sem 𝓛 (token (bare (lone Content.the_row.mir)) null_ptr))) (λ b o e.
        move ! (1 ∷ []) $ fsplit ! $ handle_tells E.al ! h vs (λ hv eh fh.
        -- [the handle; the end of the parameters; the box's memory; the fact]
        let w : Val = word b o in
        let is : us ≡ w ∷ [] = ev ∙ ap (λ (ws : List Val). vstruct (of_list (ws ++ [])) ∷ []) (ep ∙ ap (λ (q : Ptr). ptr_val q ∷ []) e) in
        let Γ : List (Item 𝓤) = ‵ (E.al.row.own_val h (hv ∷ [])) ∷ ‵ ftrue ∷ ‵ (box_owns token Content.the_row (block_ptr b o) x) ∷ raw (fact 𝓤 (IsSome (Some x))) ∷ [] in
        by ! (subst (λ (ws : List Val × List Val). ent 𝓤 (types.Kit.⋆ 𝓛 Γ) (WpFn 𝓤 H 𝓣.C 𝓣.Λ code.function (ws.0 ++ (ws.1 ++ [])) Post)) (λ j. (sym is j, sym eh j))
        (qed 𝓛 Γ ∵ move ! (1 ∷ 3 ∷ []) $ drop ! $ drop ! $ enter ! 𝓣.C 𝓣.Λ code.function (w ∷ hv ∷ []) _ $ alloc_all ! (λ ls. pass_all ! refl ((tt, (tt, tt)), (fh, tt)) $
        sets ! (of_opd ! (get_in ! (fld ! refl (stop !)) (sub ! 0 refl (whole !)))) refl (tt, tt) $
        first ! $ blocks ! $ lft_new ! tt (λ α. lft_new ! tt (λ β.
        let y : Shuts.Ghost = (((α ∷ [], (β ∷ [], tt)), (full_share, (full_share, tt)), tt, (h, (block_ptr b o, tt)), (hv ∷ [], (vptr b o ∷ [], tt))), x) in
        let ts : Item 𝓤 = ‵ (flft (α ∷ []) full_share) ⊛ ‵ (flft (β ∷ []) full_share) ⊛ ‵ ftrue in
        let inX = (α ∷ []) ⊑ E.row.lives in let inA = (β ∷ []) ⊑ E.al.row.lives in
        -- [the tokens of β and α; the handle; the box's memory; the locals]
        nothing ! $ move ! (1 ∷ 0 ∷ []) $ join ! $ move ! (1 ∷ 0 ∷ []) $ join ! $ move ! (2 ∷ []) $
        use0 𝓛 (raw (fact 𝓤 inA)) (fact_i 𝓤 inA (emp 𝓤) (⊑_static (β ∷ []))) $ join ! $ use0 𝓛 (raw (fact 𝓤 inX)) (fact_i 𝓤 inX (emp 𝓤) (⊑_static (α ∷ []))) $ join ! $
        nothing ! $ feq_i ! (List Val) (vptr b o ∷ []) (vptr b o ∷ []) refl $ fjoin ! $ move ! (3 ∷ 0 ∷ []) $ fjoin ! $ move ! (2 ∷ 0 ∷ []) $ join ! $ join ! $ use1 𝓛 (raw (Shuts.pre y)) (id⊢ 𝓤 _) $
        calls_at_last ! (fm_of 𝓤 H 𝓛.laws 𝓣) Shuts kn y (and_then ! (get ! refl) (and_then ! (get ! refl) (no_more !))) (λ u.
        use1 𝓛 (later (some (λ (r : D E). (ts ⊛ ‵ ((B E).own_val r (u ∷ []))) ⊛ some (λ (_ : Unit {0} × (Unit {0} × Unit {0})). ‵ (fsep ftrue (fsep ftrue ftrue)) ⊛ (raw (fact 𝓤 (r.value ≡ x)) ⊛ raw (fact 𝓤 (r.alloc ≡ h))))))) (id⊢ 𝓤 _) $
        await ! tt $ pick ! (λ r. split ! $ move ! (1 ∷ []) $ pick ! (λ _. split3 ! $ drop ! $ heard ! (r.value ≡ x) (λ same. drop ! $ split ! $ drop ! $
        box_out E ! r (u ∷ []) (λ b' o' hw e' wu fw. box_in E ! r b' o' r.value e' refl $ rewrite ! 0 (λ (ws : List Val). ‵ ((B E).own_val r ws)) (sym wu) refl $
        let typed : T (has_ty (box_ty E) u) × WT u = subst (λ (s : Val). T (has_ty (box_ty E) s) × WT s) (sym (ap only wu)) (box_typed E hw b' o' fw) in
        lands_last ! refl typed $ exec ! 𝓣.C 𝓣.Λ (env (code.function).locals ls) code.Mir.t-3 (at_ret (env (code.function).locals ls) Post) $
        sets ! (of_opd ! (get ! refl)) refl typed $ returns ! (look_at ! 0 refl) $ free_all ! refl $ keep ! (0 ∷ []) $
        suffices ! _ (ends_at 𝓛 f.ended stayed (f.clauses 𝓛 at_mem run) z u r (tt, (tt, tt)) (tt, (tt, tt))) $ says ! (ap Some same) $
        nothing ! $ nothing ! $ fjoin ! $ nothing ! $ fjoin ! $ join ! $ nothing ! $ join ! $ done !)))))))))))))))

    at_each : (p : Ptr) (m : Option Content.the_row.Denot) → Goal p m
    at_each p None = qed 𝓛 (raw (on_entry 𝓛 f.signature tt tt (record { at = p; content = None }, (h, tt)) (us, (vs, tt))) ∷ raw (fact 𝓤 (IsSome {T = Content.the_row.Denot} None)) ∷ []) ∵ move ! (1 ∷ []) $ heard ! (IsSome {T = Content.the_row.Denot} None) (λ no. absurd (false≢true no))
    at_each p (Some x) = full p x

pub into_box_spec : {M : Type 1} → statement M
unfolding tables_of no_drop_code.code
into_box_spec {M} 𝓤 𝓛 𝓜 𝓡 wired =
    let 𝓣 : Tables 𝓤 𝓛.H = tables_of 𝓤 𝓛.H 𝓜 (tables 𝓤 𝓛.H 𝓜 𝓡 𝓡.env) in
    let allocator = heap_met.passed 𝓡.env (code.calls-std_heap::GlobalAllocator::allocate 𝓡.env wired) (code.calls-std_heap::GlobalAllocator::deallocate 𝓡.env wired)
    (code.calls-std_heap::GlobalAllocator::grow 𝓡.env wired) (code.calls-std_heap::GlobalAllocator::shrink 𝓡.env wired) M 𝓤 𝓛 𝓜 𝓡 in
    let glue = glues "hla_c::Destruct++none::drop" 𝓡.env (code.calls-hla_c::Destruct++none::drop 𝓡.env wired) HR LH M 𝓤 𝓛 𝓜 𝓡 in
    let kn = raw_met.met 𝓤 𝓛 𝓜 𝓡 (code.calls-std_alloc::boxed::Box::from_raw 𝓡.env wired) S HR LS LH ghosts dict no_drop allocator glue in
    entered 𝓤 𝓛.H (triple_of 𝓛 f.signature (f.spec 𝓛 𝓜.mem 𝓡.returns)) 𝓣.C 𝓣.Λ #self code.function (code.unfolded 𝓤 𝓛.H 𝓜 𝓡 wired)
    (walk_Meets 𝓛 f.ended stayed (Goes-dropped 𝓛 0 (plain (λ _. Sealed.the_row)) yes (λ κs x w. refl), (Goes-dropped 𝓛 0 (plain (λ _. Heap.the_row)) yes (λ κs x w. refl), tt))
    (f.clauses 𝓛 𝓜.mem 𝓡.returns) (WpFn 𝓤 𝓛.H 𝓣.C 𝓣.Λ code.function) (WpFn-mono 𝓤 𝓛.H 𝓛.laws 𝓣 code.function)
    (λ z. at_each 𝓛 𝓜.mem 𝓡.returns 𝓣 kn z.0.3.1.0 z.0.4.0 z.0.4.1.0 z.0.3.0.at z.0.3.0.content))
