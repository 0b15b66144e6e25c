-- Synchronization points (HLA 1.3, federation management): which are open, to whom each was announced, and who has achieved it
use Rattle.std.specs.Prelude.{ℕ, cond, not, ◌&&◌, Bool, true, false, Option, is_some, List, [], ◌∷◌, ◌++◌, filter, find}
use Rattle.std.specs.List.{list_all}
use Rattle.std.specs.Option.{option_map_or}
use Rattle.std.specs.Str.{bytes_eq}
use Rattle.hla_base.specs.declared.notice.Notice.{Notice}
use Rattle.hla_base.specs.declared.notice.NoticeKind.{NoticeKind}
use Rattle.hla_base.specs.declared.notice.NoticeKind.TheVariants as kind
use Rattle.hla_base.specs.Tables.{upd}

-- an open point; its members are the federates that are joined
pub record Point : Type 0 where
  pub label : List ℕ
  pub announced : ℕ → Bool  -- who was told of it
  pub achieved : ℕ → Bool

abbrev pub new_point : List ℕ → Point
new_point label = record { label = label; announced = λ _. false; achieved = λ _. false }

-- ---- points by label; no two that are open have one
abbrev pub is_labelled : List ℕ → Point → Bool
is_labelled label p = bytes_eq p.label label

abbrev pub point_labelled : List ℕ → List Point → Option Point
point_labelled label points = find (is_labelled label) points

abbrev pub is_open : List ℕ → List Point → Bool
is_open label points = is_some (point_labelled label points)

-- a federate may achieve a point that it was told of, once
abbrev pub is_awaited : ℕ → Point → Bool
is_awaited f p = p.announced f && not (p.achieved f)

abbrev pub may_achieve : ℕ → List ℕ → List Point → Bool
may_achieve f label points = option_map_or (is_awaited f) (point_labelled label points) false

-- ---- changes
-- the point of a label, changed
abbrev pub with_point : (Point → Point) → List ℕ → List Point → List Point
with_point change label [] = []
with_point change label (p ∷ ps) = cond (is_labelled label p) (change p ∷ ps) (p ∷ with_point change label ps)

abbrev pub announced_to : ℕ → Point → Point
announced_to f p = record p { announced = upd p.announced f true }

abbrev pub achieved_by : ℕ → Point → Point
achieved_by f p = record p { achieved = upd p.achieved f true }

-- ---- a point that all its members have achieved closes
abbrev pub is_achieved_by_all : List ℕ → Point → Bool
is_achieved_by_all members p = list_all p.achieved members

-- those that close, and those that stay open, each in order of opening
abbrev pub closing : List ℕ → List Point → List Point
closing members points = filter (is_achieved_by_all members) points

abbrev pub left_open : List ℕ → List Point → List Point
left_open members points = filter (λ p. not (is_achieved_by_all members p)) points

-- ---- what a federate is told
abbrev pub notice : NoticeKind → List ℕ → Notice
notice k label = record { kind = k; label = label }

abbrev pub announcement_of : Point → Notice
announcement_of p = notice kind.Announced p.label

abbrev pub closing_of : Point → Notice
closing_of p = notice kind.Synchronized p.label

-- a federate that has picked up the announcement of a point was told of it
abbrev pub points_after_notice : ℕ → Notice → List Point → List Point
points_after_notice f n points = points_after_kind n.kind
  where
    points_after_kind : NoticeKind → List Point
    points_after_kind kind.Announced = with_point (announced_to f) n.label points
    points_after_kind k = points
