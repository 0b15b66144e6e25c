-- A box in the C library's heap, under the names of its steps. A call passes each type as an argument, `at`.
use mathlib.Core.Path.{refl}
use mathlib.Core.List.{[], ◌∷◌}
use mir.Raw.{raw as bare}
use mir.Syntax.{Dict, impl, tnil, tcons, dnil}
use denote.Exit.{no}
use denote.RattleType.{RattleType}
use denote.Param.{layout, arg}
use denote.Param.Laws.{Laws, arg_laws}
use Rattle.std_alloc.proofs.BoxSteps.Form.{Bx}
use Rattle.std_heap.specs.contracts.Global as Heap
use Rattle.std_heap.specs.contracts.GlobalAllocator.TheImpl.{ghosts, dict}
use Rattle.std_heap.proofs.Global.TheLaws as heap
use Rattle.hla_c.specs.contracts.content.Content as Content
use Rattle.hla_c.proofs.content.Content.TheLaws as content

abbrev pub as_argument : RattleType → RattleType
as_argument R = arg (bare (layout R)) no R

abbrev pub H : RattleType
H = as_argument Heap.the_row

abbrev pub LH : Laws H
LH = arg_laws (bare (layout Heap.the_row)) no Heap.the_row heap.the_row_laws refl

abbrev pub S : RattleType
S = as_argument Content.the_row

abbrev pub LS : Laws S
LS = arg_laws (bare (layout Content.the_row)) no Content.the_row content.the_row_laws refl

abbrev pub no_drop : Dict
no_drop = impl ("hla_c::Destruct++none::drop" ∷ []) (tcons (layout H) tnil) dnil

abbrev pub Box_of : (X : RattleType) → Laws X → Bx
Box_of X LX = record { row = X; laws = LX; al = record { row = H; laws = LH; g = ghosts; d = dict; drops = no_drop } }
