-- Ledgers that no list of calls leads to, as one table that is computed from the definitions: which of them refusal 1 lets pass, what a release, a confirming and a spare rate answer then, a new ledger over records that hold something; and a holding with its rate.
use Rattle.std.proofs.Common.{◌≡◌, ℕ, Bool, true, false, List, [], ◌∷◌, set, replicate, Result, Ok, Err, refl}
use Rattle.quantity.specs.Sums.{total, every, list_of}
use Rattle.quantity.specs.Rounding.{round_up}
use Rattle.quantity.specs.Divisors.{euclid, gcd}
use Rattle.flow.specs.Classes.{most_delayed, blocks_met, changed_quota, carries, burst_at}
use Rattle.flow.specs.Declarations.{row_count, row_at, last_row, row_in_range, declaration_in_range, rows_in_order, cleared, class_of}
use Rattle.operator.specs.Operators.{number_in_range}
use Rattle.operator.specs.FilterPart.{slower}
use Rattle.sheet.specs.Numbers.{value_of_bytes}
use Rattle.sheet.specs.Bodies.{part, declaration_in, declaration_fits, wanted_in, wanted_fits, operator_of, operator_in, operator_in_range, operator_fits}
use Rattle.sheet.specs.Fields.{body_at, field_missing, header_cut_off, field_unexpected, body_cut_off, body_out_of_range}
use Rattle.sheet.specs.Forms.{in_full, stands_for, value_of_path}
use Rattle.sheet.specs.Sheets.{in_rows_form, rows_given, first_format, declared_in, declaration_cases, wanted_at, further_cases, in_house_form, sheet_cases, operators_from, fields_path, value_in, path_in}
use Rattle.figures.specs.Progress.{behind, progress_at}
use Rattle.figures.specs.Figures.{part_held, part_delay, held_figure, own_delay, pairs, is_framed, framed_after_filter, quota_behind, figure_too_large, rate_too_low}
use Rattle.figures.specs.Answers.{operator_at, before, paired_at, held_at, delay_at, path_delay, operators_cases}
use Rattle.quantity.specs.Ranges.{in_range}
use Rattle.quantity.specs.Refusals.{refusal_number, refusal_place}
use Rattle.quantity.specs.declared.Rate.{Rate}
use Rattle.quantity.specs.declared.refusal.Refusal.{Refusal}
use Rattle.ledger.specs.declared.Record.{Record}
use Rattle.ledger.specs.declared.Ledger.{Ledger}
use Rattle.ledger.specs.Records.{no_record, has_link, share, reserved, among, place_among, all_differ, stands}
use Rattle.ledger.specs.Ledgers.{capacities_fit, record_in_range, record_clear, record_fits, link_fits, total_kept, ledger_unusable}
use Rattle.ledger.specs.Opening.{new_ledger, opened_of, records_opened}
use Rattle.ledger.specs.Holding.{rate_of, names_link, rate_on, bits_of, links_of, record_of, ledger_full, link_short, accepted_holding, holding_of, records_held}
use Rattle.ledger.specs.Release.{closed_up, accepted_release, released_of, records_released}
use Rattle.ledger.specs.Confirming.{confirmed_already, confirmed_of, confirmed_record, confirmed_at, records_confirmed}
use Rattle.ledger.specs.Spare.{total_fits, links_unusable, spare_of}

-- a record with its mark, and that of a held path
abbrev pub marked : ℕ → ℕ → ℕ → ℕ → Record
marked number rate links mark = record { number = record { 0 = number }; rate = record { 0 = rate }; links = links; mark = mark }

abbrev pub entry : ℕ → ℕ → ℕ → Record
entry number rate links = marked number rate links 0

-- totals that begin with these three, and sixteen links of one capacity with so many paths and such totals
abbrev pub totals-of : ℕ → ℕ → ℕ → List Rate
totals-of a b c = record { 0 = a } ∷ record { 0 = b } ∷ record { 0 = c } ∷ replicate 13 (record { 0 = 0 })

abbrev pub links-of : ℕ → ℕ → List Rate → Ledger
links-of most count totals = record { capacities = replicate 16 (record { 0 = most }); totals = totals; count = count }

-- two paths: 17 reserves 3 on links 0 and 2, 20 reserves 4 on link 0
abbrev pub two : List Record
two = entry 17 3 5 ∷ entry 20 4 1 ∷ replicate 62 no_record

abbrev pub kept : List Rate
kept = totals-of 7 0 3

-- refusal 1 does not let these pass
pub computed : List Bool
computed =
    ledger_unusable (links-of 1000 2 kept) two
    -- 63 records, and 65
    ∷ ledger_unusable (links-of 1000 2 kept) (entry 17 3 5 ∷ entry 20 4 1 ∷ replicate 61 no_record)
    ∷ ledger_unusable (links-of 1000 2 kept) (entry 17 3 5 ∷ entry 20 4 1 ∷ replicate 63 no_record)
    -- 65 paths
    ∷ ledger_unusable (links-of 1000 65 kept) two
    -- a capacity of 1,000,000, and one above
    ∷ ledger_unusable (links-of 1_000_000 2 kept) two
    ∷ ledger_unusable (links-of 1_000_001 2 kept) two
    -- a number, a rate or links out of their ranges, and at their edges
    ∷ ledger_unusable (links-of 1000 2 kept) (set two 0 (entry 65_535 3 5))
    ∷ ledger_unusable (links-of 1000 2 kept) (set two 0 (entry 65_536 3 5))
    ∷ ledger_unusable (links-of 1000 2 (totals-of 4 0 0)) (set two 0 (entry 17 0 5))
    ∷ ledger_unusable (links-of 1_000_000 2 (totals-of 65_539 0 65_535)) (set two 0 (entry 17 65_535 5))
    ∷ ledger_unusable (links-of 1_000_000 2 (totals-of 65_540 0 65_536)) (set two 0 (entry 17 65_536 5))
    ∷ ledger_unusable (links-of 1000 2 (set (replicate 16 (record { 0 = 3 })) 0 (record { 0 = 7 }))) (set two 0 (entry 17 3 65_535))
    ∷ ledger_unusable (links-of 1000 2 (totals-of 4 0 0)) (set two 0 (entry 17 3 65_536))
    -- a path that stands and is not counted, and a record past the count with one value that is not 0
    ∷ ledger_unusable (links-of 1000 1 (totals-of 3 0 3)) two
    ∷ ledger_unusable (links-of 1000 2 kept) (set two 63 (entry 1 0 0))
    ∷ ledger_unusable (links-of 1000 2 kept) (set two 2 (entry 0 1 0))
    ∷ ledger_unusable (links-of 1000 2 kept) (set two 2 (entry 0 0 1))
    -- a mark of 1 and one of 2 in a standing record, and one of 1 past the count
    ∷ ledger_unusable (links-of 1000 2 kept) (set two 1 (marked 20 4 1 1))
    ∷ ledger_unusable (links-of 1000 2 kept) (set two 1 (marked 20 4 1 2))
    ∷ ledger_unusable (links-of 1000 2 kept) (set two 2 (marked 0 0 0 1))
    -- a path that is counted and does not stand
    ∷ ledger_unusable (links-of 1000 3 kept) two
    -- a number twice
    ∷ ledger_unusable (links-of 1000 2 kept) (set two 1 (entry 17 4 1))
    -- link 0 filled exactly, and one above
    ∷ ledger_unusable (links-of 7 2 kept) two
    ∷ ledger_unusable (links-of 6 2 kept) two
    -- a total one too high and one too low on a link that a path names, and 1 on a link that none names
    ∷ ledger_unusable (links-of 1000 2 (totals-of 8 0 3)) two
    ∷ ledger_unusable (links-of 1000 2 (totals-of 6 0 3)) two
    ∷ ledger_unusable (links-of 1000 2 (totals-of 7 1 3)) two
    ∷ []

pub expected : List Bool
expected =
    false ∷ true ∷ true ∷ true ∷ false ∷ true ∷ false ∷ true ∷ true ∷ false ∷ true ∷ false ∷ true ∷ true ∷ true ∷ true ∷ true ∷ false ∷ true ∷ true ∷ true ∷ true ∷ false ∷ true ∷ true ∷ true ∷ true ∷ []

pub reference-ledgers : computed ≡ expected
unfolding computed expected ledger_unusable capacities_fit record_fits record_in_range record_clear link_fits total_kept reserved share has_link all_differ among in_range every total
reference-ledgers = refl

-- the number and the place of a refusal; 0 where there is none
abbrev pub refusal : {A : Type 0} → Result A Refusal → List ℕ
refusal (Ok result) = []
refusal (Err why) = refusal_number why ∷ refusal_place why ∷ []

-- what a release answers, of 17, of 18 and of 65,536
pub released : Ledger → List Record → List (List ℕ)
released ledger records = refusal (released_of ledger records 17) ∷ refusal (released_of ledger records 18) ∷ refusal (released_of ledger records 65_536) ∷ []

-- a sound ledger, and one whose link 0 is filled beyond its capacity
pub reference-answers : released (links-of 1000 2 kept) two ≡ ([] ∷ (10 ∷ 0 ∷ []) ∷ (1 ∷ 0 ∷ []) ∷ [])
unfolding released released_of accepted_release stands ledger_unusable capacities_fit record_fits record_in_range record_clear link_fits total_kept reserved share has_link all_differ among in_range every total
reference-answers = refl

pub reference-damaged : released (links-of 6 2 kept) two ≡ ((1 ∷ 0 ∷ []) ∷ (1 ∷ 0 ∷ []) ∷ (1 ∷ 0 ∷ []) ∷ [])
unfolding released released_of accepted_release stands ledger_unusable capacities_fit record_fits record_in_range record_clear link_fits total_kept reserved share has_link all_differ among in_range every total
reference-damaged = refl

-- what confirming answers, of 17, of 20, of 18 and of 65,536
pub confirmed : Ledger → List Record → List (List ℕ)
confirmed ledger records =
    refusal (confirmed_of ledger records 17) ∷ refusal (confirmed_of ledger records 20) ∷ refusal (confirmed_of ledger records 18) ∷ refusal (confirmed_of ledger records 65_536) ∷ []

-- 17 is held and 20 confirmed; and a ledger whose mark of 20 is 2
pub reference-confirmings : confirmed (links-of 1000 2 kept) (set two 1 (marked 20 4 1 1)) ≡ ([] ∷ (16 ∷ 0 ∷ []) ∷ (10 ∷ 0 ∷ []) ∷ (1 ∷ 0 ∷ []) ∷ [])
unfolding confirmed confirmed_of confirmed_already place_among stands ledger_unusable capacities_fit record_fits record_in_range record_clear link_fits total_kept reserved share has_link all_differ among in_range every total
reference-confirmings = refl

pub reference-mark-of-two : confirmed (links-of 1000 2 kept) (set two 1 (marked 20 4 1 2)) ≡ ((1 ∷ 0 ∷ []) ∷ (1 ∷ 0 ∷ []) ∷ (1 ∷ 0 ∷ []) ∷ (1 ∷ 0 ∷ []) ∷ [])
unfolding confirmed confirmed_of confirmed_already place_among stands ledger_unusable capacities_fit record_fits record_in_range record_clear link_fits total_kept reserved share has_link all_differ among in_range every total
reference-mark-of-two = refl

-- the confirming of 17 sets its mark, and no other value
pub reference-confirmed : records_confirmed (links-of 1000 2 kept) two 17 ≡ (marked 17 3 5 1 ∷ entry 20 4 1 ∷ replicate 62 no_record)
unfolding records_confirmed confirmed_at confirmed_record confirmed_already place_among stands ledger_unusable capacities_fit record_fits record_in_range record_clear link_fits total_kept reserved share has_link all_differ among in_range every total list_of
reference-confirmed = refl

-- what asking about a link answers: a rate, or a refusal
abbrev pub rate_or : Result Rate Refusal → List ℕ
rate_or (Ok rate) = rate.0 ∷ []
rate_or (Err why) = refusal_number why ∷ refusal_place why ∷ []

abbrev pub asked : Ledger → ℕ → List ℕ
asked ledger link = rate_or (spare_of ledger link)

-- link 3 has another capacity
abbrev pub third_of : ℕ → Ledger
third_of most = record { capacities = set (replicate 16 (record { 0 = 1000 })) 3 (record { 0 = most }); totals = kept; count = 2 }

-- asking is answered by the ledger alone
pub askings : List (List ℕ)
askings =
    -- link 0, and there is no link 16
    asked (links-of 1000 2 kept) 0
    ∷ asked (links-of 1000 2 kept) 16
    -- a capacity of 1,000,000 on another link, and one above
    ∷ asked (third_of 1_000_000) 0
    ∷ asked (third_of 1_000_001) 0
    -- a total at the capacity on another link, and one above
    ∷ asked (links-of 7 2 kept) 2
    ∷ asked (links-of 6 2 kept) 2
    ∷ asked (links-of 6 2 kept) 16
    -- a total that no records would give, and a count of 65
    ∷ asked (links-of 1000 2 (totals-of 8 0 3)) 0
    ∷ asked (links-of 1000 65 kept) 0
    ∷ []

pub reference-askings : askings ≡ ((993 ∷ []) ∷ (5 ∷ 0 ∷ []) ∷ (993 ∷ []) ∷ (1 ∷ 0 ∷ []) ∷ (4 ∷ []) ∷ (1 ∷ 0 ∷ []) ∷ (1 ∷ 0 ∷ []) ∷ (992 ∷ []) ∷ (993 ∷ []) ∷ [])
unfolding askings spare_of links_unusable total_fits capacities_fit in_range every
reference-askings = refl

-- the release of 17 closes the gap and clears the last, and takes its 3 off links 0 and 2
pub reference-released : released_of (links-of 1000 2 kept) two 17 ≡ Ok (links-of 1000 1 (totals-of 4 0 0))
unfolding released_of accepted_release place_among stands ledger_unusable capacities_fit record_fits record_in_range record_clear link_fits total_kept reserved share has_link all_differ among in_range every total list_of
reference-released = refl

pub reference-release : records_released (links-of 1000 2 kept) two 17 ≡ (entry 20 4 1 ∷ replicate 63 no_record)
unfolding records_released closed_up place_among stands ledger_unusable capacities_fit record_fits record_in_range record_clear link_fits total_kept reserved share has_link all_differ among in_range every total
reference-release = refl

-- a new ledger does not test what the records held; of another length they are left, and so they are where a capacity is out of range
pub opened : List ℕ → List Record → List ℕ
opened capacities records = refusal (opened_of capacities records)

pub reference-openings : (opened (replicate 16 1_000_000) (replicate 64 (entry 99_999 0 99_999)) ∷ opened (replicate 16 5) two ∷ opened (replicate 16 5) [] ∷ opened (replicate 16 1_000_001) two ∷ opened (replicate 16 1_000_001) [] ∷ [])
    ≡ ([] ∷ [] ∷ (1 ∷ 0 ∷ []) ∷ (5 ∷ 0 ∷ []) ∷ (1 ∷ 0 ∷ []) ∷ [])
unfolding opened opened_of new_ledger capacities_fit in_range every list_of
reference-openings = refl

pub reference-cleared : records_opened (replicate 16 5) (replicate 64 (entry 99_999 0 99_999)) ≡ replicate 64 no_record
unfolding records_opened capacities_fit in_range every
reference-cleared = refl

-- a path held in an empty ledger: smooth (10, 31), delay wanted 30, a compactor 10 on link 2; it reserves ⌈31/10⌉ on that link alone, whose total is then 4
abbrev pub sheet : List ℕ
sheet = 1 ∷ 0 ∷ 7 ∷ 0 ∷ 0 ∷ 10 ∷ 0 ∷ 0 ∷ 0 ∷ 31 ∷ 2 ∷ 0 ∷ 4 ∷ 0 ∷ 0 ∷ 0 ∷ 30 ∷ 3 ∷ 0 ∷ 6 ∷ 1 ∷ 2 ∷ 0 ∷ 0 ∷ 0 ∷ 10 ∷ []

pub reference-holding : holding_of (links-of 1000 0 (totals-of 0 0 0)) (replicate 64 no_record) 17 sheet
    ≡ Ok (record { ledger = links-of 1000 1 (totals-of 0 0 4); rate = record { 0 = 4 }; delay = record { 0 = 10 } })
unfolding round_up euclid gcd total every list_of in_range value_of_bytes part row_count row_at last_row row_in_range declaration_in_range rows_in_order cleared in_rows_form rows_given first_format declared_in declaration_cases wanted_at number_in_range declaration_in declaration_fits wanted_in wanted_fits operator_of operator_in operator_in_range operator_fits body_at field_missing header_cut_off field_unexpected body_cut_off body_out_of_range further_cases in_house_form sheet_cases operators_from fields_path value_in value_of_path stands_for in_full path_in carries burst_at most_delayed blocks_met class_of slower behind progress_at part_held part_delay held_figure own_delay pairs is_framed framed_after_filter changed_quota quota_behind figure_too_large rate_too_low operator_at before paired_at held_at delay_at path_delay operators_cases rate_of names_link rate_on bits_of links_of record_of ledger_full link_short accepted_holding holding_of records_held stands ledger_unusable capacities_fit record_fits record_in_range record_clear link_fits total_kept reserved share has_link all_differ among
reference-holding = refl

pub reference-held : records_held (links-of 1000 0 (totals-of 0 0 0)) (replicate 64 no_record) 17 sheet ≡ (entry 17 4 4 ∷ replicate 63 no_record)
unfolding round_up euclid gcd total every list_of in_range value_of_bytes part row_count row_at last_row row_in_range declaration_in_range rows_in_order cleared in_rows_form rows_given first_format declared_in declaration_cases wanted_at number_in_range declaration_in declaration_fits wanted_in wanted_fits operator_of operator_in operator_in_range operator_fits body_at field_missing header_cut_off field_unexpected body_cut_off body_out_of_range further_cases in_house_form sheet_cases operators_from fields_path value_in value_of_path stands_for in_full path_in carries burst_at most_delayed blocks_met class_of slower behind progress_at part_held part_delay held_figure own_delay pairs is_framed framed_after_filter changed_quota quota_behind figure_too_large rate_too_low operator_at before paired_at held_at delay_at path_delay operators_cases rate_of names_link rate_on bits_of links_of record_of ledger_full link_short accepted_holding holding_of records_held stands ledger_unusable capacities_fit record_fits record_in_range record_clear link_fits total_kept reserved share has_link all_differ among
reference-held = refl
