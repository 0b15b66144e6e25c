-- The tables after a change of the rows that they are read from
use Rattle.std.proofs.Common.{◌≡◌, ◌≢◌, ℕ, ◌<◌, Bool, true, false, cond, eqb, max, List, length, get_or, set, refl, sym, ap, ◌∙◌, ⊎_elim, inl, inr, arith}
use Rattle.std.proofs.lemmas.Bool.{cases_eq, cases_lt}
use Rattle.std.proofs.lemmas.Bool.Decides.{nat_tests}
use Rattle.std.proofs.lemmas.List.{get_or-set_same, get_or-set_other, get_or-replicate, get_or_past, length-replicate}
use Rattle.std.proofs.Math.ListN.{replicate}
use Rattle.std.proofs.Math.Path.{fun_ext}
use Rattle.hla_base.specs.Tables.{forever, upd}
use Rattle.hla_lbts.specs.declared.row.PeerRow.{PeerRow}
use Rattle.hla_lbts.specs.Peers.{PeersValue, silent_peer, peers_of, null_bound}

abbrev pub tables : (ℕ → ℕ) → (ℕ → ℕ) → PeersValue
tables bound known_epoch = record { bound = bound; known_epoch = known_epoch }

same_tables : (a b k l : ℕ → ℕ) → a ≡ b → k ≡ l → tables a k ≡ tables b l
same_tables a b k l e f = ap (λ t. tables t k) e ∙ ap (tables b) f

set_here : (f : PeerRow → ℕ) (rows : List PeerRow) (i g : ℕ) (row : PeerRow) → i < length rows → i ≡ g → f (get_or (set rows i row) g silent_peer) ≡ cond (eqb i g) (f row) (f (get_or rows g silent_peer))
set_here f rows i g row within same =
    let y : eqb i g ≡ true = grind (arith, nat_tests) in
    rw y (ap (λ k. f (get_or (set rows i row) k silent_peer)) (sym same) ∙ ap f (get_or-set_same rows i row silent_peer within))

set_there : (f : PeerRow → ℕ) (rows : List PeerRow) (i g : ℕ) (row : PeerRow) → (i ≡ g → ⊥) → f (get_or (set rows i row) g silent_peer) ≡ cond (eqb i g) (f row) (f (get_or rows g silent_peer))
set_there f rows i g row apart =
    let n : eqb i g ≡ false = grind (arith, nat_tests) in
    let other : g ≢ i = λ e. apart (sym e) in
    rw n (ap f (get_or-set_other rows i g row silent_peer other))

column_set : (f : PeerRow → ℕ) (rows : List PeerRow) (i : ℕ) (row : PeerRow) → i < length rows → (λ g. f (get_or (set rows i row) g silent_peer)) ≡ upd (λ g. f (get_or rows g silent_peer)) i (f row)
unfolding upd
column_set f rows i row within = fun_ext (λ g. ⊎_elim (λ e. set_here f rows i g row within e) (λ ne. set_there f rows i g row ne) (cases_eq i g))

pub peers_of-set : (rows : List PeerRow) (i : ℕ) (row : PeerRow) → i < length rows → peers_of (set rows i row) ≡ tables (upd (peers_of rows).bound i row.bound) (upd (peers_of rows).known_epoch i row.epoch)
peers_of-set rows i row within =
    same_tables _ _ _ _ (column_set (λ (r : PeerRow). r.bound) rows i row within) (column_set (λ (r : PeerRow). r.epoch) rows i row within)

kept_at : (b : Bool) (t : ℕ → ℕ) (i g : ℕ) → eqb i g ≡ b → cond b (t i) (t g) ≡ t g
kept_at true t i g is = let same : i ≡ g = grind (arith, nat_tests) in ap t same
kept_at false t i g is = refl

-- an entry put again where it was
pub upd-same : (t : ℕ → ℕ) (i : ℕ) → upd t i (t i) ≡ t
unfolding upd
upd-same t i = fun_ext (λ g. kept_at (eqb i g) t i g refl)

-- rows of which nothing is known
silent_at : (n g : ℕ) → get_or (replicate n silent_peer) g silent_peer ≡ silent_peer
silent_at n g = elim (cases_lt g n) [ inl low ↦ get_or-replicate n g silent_peer silent_peer low | inr past ↦ get_or_past (replicate n silent_peer) g silent_peer (rw length-replicate past) ]

pub peers_of-silent : (n : ℕ) → peers_of (replicate n silent_peer) ≡ tables (λ _. forever) (λ _. 0)
peers_of-silent n = same_tables _ _ _ _ (fun_ext (λ g. ap (λ (r : PeerRow). r.bound) (silent_at n g))) (fun_ext (λ g. ap (λ (r : PeerRow). r.epoch) (silent_at n g)))

-- ---- a null message
pub raised_bound : (known bound epoch value : ℕ) → epoch ≡ known → max bound value ≡ null_bound known bound epoch value
raised_bound known bound epoch value same = let y : eqb epoch known ≡ true = grind (arith, nat_tests) in rw y

pub ignored_bound : (known bound epoch value : ℕ) → (epoch ≡ known → ⊥) → bound ≡ null_bound known bound epoch value
ignored_bound known bound epoch value apart = let n : eqb epoch known ≡ false = grind (arith, nat_tests) in rw n
