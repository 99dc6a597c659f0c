-- Serves the private contracts of the figures, and need not be believed: no public call cites it.
-- What the code carries along a path stands for a progress of section 4; and the bounds within which its numbers fit their words.
use Rattle.std.specs.Prelude.{ℕ, ◌+◌, ◌-◌, ◌*◌, ◌≤◌, ◌<◌, ◌≡◌, Bool, true, false, List, [], ◌∷◌, length, get_or, replicate, ltb, Option, None, Some, Result, Ok, Err}
use Rattle.quantity.specs.Limits.{most_operators}
use Rattle.quantity.specs.Rounding.{round_up}
use Rattle.quantity.specs.Sums.{total, list_of}
use Rattle.quantity.specs.Refusals.{Case, ◌⇒◌, first_of}
use Rattle.quantity.specs.declared.Units.{Units}
use Rattle.quantity.specs.declared.Slots.{Slots}
use Rattle.quantity.specs.declared.Interval.{Interval}
use Rattle.quantity.specs.declared.refusal.Refusal.{Refusal}
use Rattle.quantity.specs.declared.refusal.Refusal.TheVariants.{FramedAfterFilter, FigureTooLarge, RateTooLow}
use Rattle.flow.specs.Classes.{Class, smooth, uniform, rows, changed_quota, burst_at}
use Rattle.flow.specs.Declarations.{by_kind, has_rows, several_at, cleared}
use Rattle.flow.specs.Rows.{Row, rows_most, rows_carried, reach}
use Rattle.flow.specs.Bounds.{ClassWithin}
use Rattle.flow.specs.declared.Kind.{Kind}
use Rattle.flow.specs.declared.Declaration.{Declaration}
use Rattle.operator.specs.FilterPart.{Slowest, unfiltered, filtered}
use Rattle.operator.specs.Single.{words_used}
use Rattle.operator.specs.declared.Operator.{Operator}
use Rattle.sheet.specs.Paths.{no_linked_operator}
use Rattle.sheet.specs.Forms.{in_full}
use Rattle.sheet.specs.Sheets.{path_in_range}
use Rattle.sheet.specs.declared.LinkedOperator.{LinkedOperator}
use Rattle.sheet.specs.declared.PathValue.{PathValue}
use Rattle.quantity.specs.Choice.{pick}
use Rattle.figures.specs.Answers.{path_cases, no_figure, figure_in, path_delay}
use Rattle.figures.specs.declared.Figure.{Figure}
use Rattle.figures.specs.declared.class.FlowClass.{FlowClass}
use Rattle.figures.specs.declared.class.Source.{Source}
use Rattle.figures.specs.declared.each.Place.{Place}
use Rattle.figures.specs.declared.carried.Least.{Least}
use Rattle.figures.specs.declared.carried.Carried.{Carried}
use Rattle.figures.specs.declared.each.Planned.{Planned}
use Rattle.figures.specs.Progress.{Progress, behind}
use Rattle.figures.specs.Figures.{pairs, most_arriving, capacity, own_delay, framed_after_filter, figure_too_large, rate_too_low}

-- the class: where it is of rows, those of the declaration
abbrev pub class_in : Declaration → FlowClass → Class
class_in declared c = by_kind c.kind (smooth c.interval.0 c.quota.0) (uniform c.interval.0 c.quota.0) (rows (several_at declared) declared.count)

abbrev pub slowest_in : Option Least → Slowest
slowest_in None = unfiltered
slowest_in (Some least) = filtered least.rate.0

abbrev pub progress_in : Declaration → Carried → Progress
progress_in declared c = record { class = class_in declared c.class; in_filter_part = c.filtering; e = c.e.0; slowest = slowest_in c.slowest }

abbrev pub RateWithin : Slowest → Type 0
RateWithin unfiltered = Unit {0}
RateWithin (filtered P) = (1 ≤ P) × (P ≤ 65_535)

-- a progress of so many slots of delayers at the most
pub record Within (longest : ℕ) (p : Progress) : Type 0 where
  pub class : ClassWithin p.class
  pub e : p.e ≤ longest
  pub slowest : RateWithin p.slowest

-- of fifteen delayers before an operator, and of sixteen with it
abbrev pub most_before : ℕ
most_before = 960

abbrev pub most_with : ℕ
most_with = 1_024

-- a table that has the bound of a declaration's rows in 1 slot and more, up to an interval of 1,024 at least
pub record HasBound (declared : Declaration) (bound : List ℕ) : Type 0 where
  pub several : has_rows declared.kind ≡ true
  pub entries : (n : ℕ) → n ≤ length bound → get_or (0 ∷ bound) n 0 ≡ rows_most (several_at declared) declared.count n
  pub long : 1_024 ≤ length bound

-- where the class is of rows, the lent table has their bound
abbrev pub Lent : Kind → Declaration → List ℕ → Type 0
Lent Kind.Smooth declared bound = Unit {0}
Lent Kind.Uniform declared bound = Unit {0}
Lent Kind.Rows declared bound = HasBound declared bound

-- and it has the most in so many slots
abbrev pub Reaches : Kind → List ℕ → ℕ → Type 0
Reaches Kind.Smooth bound n = Unit {0}
Reaches Kind.Uniform bound n = Unit {0}
Reaches Kind.Rows bound n = n ≤ length bound

-- and the most in each row's interval and so many slots more
abbrev pub ReachesPast : Kind → Declaration → List ℕ → ℕ → Type 0
ReachesPast Kind.Smooth declared bound e = Unit {0}
ReachesPast Kind.Uniform declared bound e = Unit {0}
ReachesPast Kind.Rows declared bound e = (i : ℕ) → i < declared.count → e + (several_at declared i).interval ≤ length bound

-- the interval of the first row that a rate carries, if there is one
abbrev pub Reached : (ℕ → Row) → ℕ → ℕ → Option Interval → Type 0
Reached given k R None = (rows_carried given k R ≡ false) × (reach given k R ≡ 0)
Reached given k R (Some interval) = (rows_carried given k R ≡ true) × (reach given k R ≡ interval.0)

-- the slots of the delayers before a path's last operator, as many as their words: behind no more of them is what arrives at an operator
unfoldable pub slots_before : PathValue → ℕ
slots_before value = total (λ k. words_used (get_or value.operators k no_linked_operator).operator) (value.count - 1)

-- what is kept as the burst is that at the least rate, with the slots in which the rate sends it
abbrev pub BurstKept : Class → Option Least → Type 0
BurstKept c None = Unit {0}
BurstKept c (Some least) = (least.burst.0 ≡ burst_at c least.rate.0) × (least.slots.0 ≡ round_up least.burst.0 least.rate.0)

abbrev pub slots_kept : Option Least → ℕ
slots_kept None = 0
slots_kept (Some least) = least.slots.0

-- what the code carries along, with what the source declares and the table that is lent
pub record Ready (longest : ℕ) (source : Source) (c : Carried) : Type 0 where
  pub within : Within longest (progress_in source.declared.now c)
  pub lent : Lent c.class.kind source.declared.now source.bound.now
  pub burst : BurstKept (class_in source.declared.now c.class) c.slowest

-- so much arrives at an operator in one slot, which is no more than fits
abbrev pub Arriving : Progress → Units → Type 0
Arriving p arriving = (arriving.0 ≡ most_arriving p) × (arriving.0 ≤ 134_218_751 * 67_108_863)

-- the progress before an operator
abbrev pub progress_here : Place → Progress
progress_here place = progress_in place.source.declared.now place.carried

-- what is known there
pub record Known (place : Place) : Type 0 where
  pub ready : Ready most_before place.source place.carried
  pub arriving : Arriving (progress_here place) place.arriving

-- what an operator behind a progress goes through, as 6 to 8 of a path's operator k
abbrev pub cases_of : Progress → Operator → ℕ → List Case
cases_of p op k = (framed_after_filter p op ⇒ FramedAfterFilter k) ∷ (figure_too_large p op ⇒ FigureTooLarge k) ∷ (rate_too_low p op ⇒ RateTooLow k) ∷ []

-- an operator's figure, or why it is refused
abbrev pub figure_of : Result Planned Refusal → Result Figure Refusal
figure_of (Ok planned) = Ok planned.figure
figure_of (Err why) = Err why

-- the figure of so much capacity, or the first of 6 to 8 that stands
abbrev pub planned_with : Progress → Operator → Bool → ℕ → ℕ → Result Figure Refusal
planned_with p op paired most k = first_of (cases_of p op k) Err (Ok (record { capacity = record { 0 = most }; delay = record { 0 = own_delay p op paired } }))

unfoldable pub planned_of : Progress → Operator → Bool → ℕ → Result Figure Refusal
planned_of p op paired k = planned_with p op paired (capacity p op) k

-- an operator with the next one, if one follows
abbrev pub pairs_with : Operator → Option Operator → Bool
pairs_with op None = false
pairs_with op (Some next) = pairs op next

-- the operator behind operator k, if one follows
abbrev pub follower_in : List LinkedOperator → ℕ → Option Operator
follower_in operators k = pick (ltb (k + 1) (length operators)) (Some (get_or operators (k + 1) no_linked_operator).operator) None

-- the class behind a change of interval
abbrev pub changed_class : Declaration → FlowClass → Kind → Interval → Class
changed_class declared c output n = class_in declared (record { kind = output; interval = n; quota = record { 0 = changed_quota n.0 (class_in declared c) } })

-- what is carried on where there is a figure stands for this progress, with the table that is lent and the burst
abbrev pub CarriedOn : Source → Progress → Result Planned Refusal → Type 0
CarriedOn source p (Ok planned) = (progress_in source.declared.now planned.behind ≡ p) × Lent planned.behind.class.kind source.declared.now source.bound.now × BurstKept (class_in source.declared.now planned.behind.class) planned.behind.slowest
CarriedOn source p (Err why) = Unit {0}

-- an operator at its place is answered right, and what is carried on is what stands behind it
pub record PlannedAs (place : Place) (op : Operator) (paired : Bool) (planned : Result Planned Refusal) : Type 0 where
  pub answered : figure_of planned ≡ planned_of (progress_here place) op paired place.k
  pub carried : CarriedOn place.source (behind (progress_here place) op) planned

-- a path value of at most sixteen operators, its numbers in their ranges, with 0 in all that its declaration does not use
pub record PathWithin (value : PathValue) : Type 0 where
  pub few : value.count ≤ most_operators
  pub full : length value.operators ≡ most_operators
  pub inside : path_in_range (in_full value) ≡ true
  pub clear : cleared value.declaration ≡ value.declaration

-- and with the table of its bound
pub record Readable (value : PathValue) (bound : List ℕ) : Type 0 where
  pub within : PathWithin value
  pub lent : Lent value.declaration.kind value.declaration bound
  pub reaches : ReachesPast value.declaration.kind value.declaration bound (slots_before value)

-- the places of the figures before any is written
abbrev pub NoFigures : List Figure → Type 0
NoFigures figures = figures ≡ replicate most_operators no_figure

-- the figures of a path's operators, and its delay
pub record PlannedPath : Type 0 where
  pub figures : List Figure
  pub delay : Slots

-- by the figures that were written, and the delay that was answered
abbrev pub planned_by : List Figure → Result Slots Refusal → Result PlannedPath Refusal
planned_by figures (Ok delay) = Ok (record { figures = figures; delay = delay })
planned_by figures (Err why) = Err why

-- what planning a path value comes to: the figures and the delay of the path that it has written out, or the first of 6 to 9 that stands
unfoldable pub planned_of_value : PathValue → Result PlannedPath Refusal
planned_of_value value =
    first_of (path_cases (in_full value)) Err (Ok (record { figures = list_of (figure_in (in_full value)) most_operators; delay = record { 0 = path_delay (in_full value) } }))
