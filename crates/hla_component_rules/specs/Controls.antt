-- What waits among the controls: what a federate may be given at any tick
use Rattle.std.specs.Prelude.{ℕ, ◌+◌, cond, eqb, ◌&&◌, List, [], ◌∷◌}
use Rattle.hla_base.specs.declared.content.Discovery.{Discovery}
use Rattle.hla_base.specs.declared.notice.Notice.{Notice}
use Rattle.hla_base.specs.Tables.{one_if}
use Rattle.hla_component_rules.specs.declared.control.Control.{Control}
use Rattle.hla_component_rules.specs.declared.control.Control.TheVariants.{ToDiscover, ToRetract, ToTell}

-- the discoveries of one sender among the controls
unfoldable pub discoveries_from : ℕ → List Control → List Discovery
discoveries_from g [] = []
discoveries_from g (ToDiscover from d ∷ ks) = cond (eqb g from) (d ∷ discoveries_from g ks) (discoveries_from g ks)
discoveries_from g (ToRetract e ∷ ks) = discoveries_from g ks
discoveries_from g (ToTell n ∷ ks) = discoveries_from g ks

-- how often a request to take an event back is due
unfoldable pub dues : ℕ → ℕ → List Control → ℕ
dues g m [] = 0
dues g m (ToDiscover from d ∷ ks) = dues g m ks
dues g m (ToRetract e ∷ ks) = one_if (eqb g e.sender && eqb m e.serial) + dues g m ks
dues g m (ToTell n ∷ ks) = dues g m ks

-- what there is to be told of synchronization points
unfoldable pub notices_in : List Control → List Notice
notices_in [] = []
notices_in (ToDiscover from d ∷ ks) = notices_in ks
notices_in (ToRetract e ∷ ks) = notices_in ks
notices_in (ToTell n ∷ ks) = n ∷ notices_in ks
