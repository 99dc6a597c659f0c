-- What the programs do not say of a delayer's ring, as tables that are computed from the definitions: totals just before and after they wrap, worked out by hand, and words that no slot wrote.
use Rattle.std.proofs.Common.{◌≡◌, ℕ, Bool, true, false, List, [], ◌∷◌, ◌++◌, replicate, refl, Result, Ok, Err}
use Rattle.quantity.specs.Ranges.{in_range}
use Rattle.quantity.specs.Sums.{every, list_of}
use Rattle.words.specs.Stored.{stored_fits, word_noted}
use Rattle.operator.specs.Delayer.{delayer_greatest, delayer_after}
use Rattle.operator.specs.Operators.{greatest_output, held_after, number_in_range, limiter, delayer}
use Rattle.operator.specs.Single.{uses_held, uses_beside, words_used}
use Rattle.operator.specs.Ring
use Rattle.operator.specs.declared.Operator.{Operator}
use Rattle.operator.specs.declared.ring.Advanced.{Advanced}
use Rattle.operator.specs.declared.ring.Halted.{Halted}
use Rattle.operator.specs.declared.ring.PathOperator.{PathOperator}

-- an operator with its next slot and its totals
abbrev pub counting : Operator → ℕ → ℕ → ℕ → PathOperator
counting operator slot entered left =
    record { operator = operator; slot = record { 0 = slot }; held = record { 0 = 0 }; beside = record { 0 = 0 }; entered = entered; left = left }

-- these words, and so many behind them that are 0
abbrev pub clear_behind : List ℕ → ℕ → List ℕ
clear_behind words rest = words ++ replicate rest 0

-- the last total before the wrap, 0 and 4 behind it; units above 32 bits; and the difference over the wrap, either way round
pub totals : List ℕ
totals =
    Ring.total_more 4_294_967_290 5
    ∷ Ring.total_more 4_294_967_290 6
    ∷ Ring.total_more 4_294_967_290 10
    ∷ Ring.total_more 4_294_967_290 18_253_610_991
    ∷ Ring.total_less 4 4_294_967_290
    ∷ Ring.total_less 4_294_967_290 4
    ∷ Ring.total_less 4 4
    ∷ []

pub expected_totals : List ℕ
expected_totals = 4_294_967_295 ∷ 0 ∷ 4 ∷ 1_073_741_801 ∷ 10 ∷ 4_294_967_286 ∷ 0 ∷ []

pub reference-totals : totals ≡ expected_totals
unfolding totals expected_totals Ring.total_more Ring.total_less
reference-totals = refl

-- A delayer 3 before slot 7. It holds 30: of slot 6 all 5 that entered, of slot 5 all 20, of slot 4 the last 5.
pub before : PathOperator
before = counting (delayer 3) 7 4_294_967_290 4_294_967_260

-- the totals after slots 6, 4 and 5
pub before_words : List ℕ
before_words = clear_behind (4_294_967_290 ∷ 4_294_967_265 ∷ 4_294_967_285 ∷ []) 61

-- Slot 7 has input 10 and output 8, and the total wraps. Of the 32 then held 10 are of slot 7, 5 of slot 6 and 17 of slot 5.
pub after : PathOperator
after = counting (delayer 3) 8 4 4_294_967_268

pub after_words : List ℕ
after_words = clear_behind (4_294_967_290 ∷ 4 ∷ 4_294_967_285 ∷ []) 61

-- b, the ages 0 to 3, what entered after slot t − d, the least
abbrev pub sayings : PathOperator → List ℕ → List ℕ
sayings x words =
    (Ring.path_holds x words).b ∷ list_of (Ring.path_holds x words).past 4 ++ (Ring.ring_recent 3 x words ∷ Ring.path_least x words 10 ∷ [])

pub said : List (List ℕ)
said = sayings before before_words ∷ sayings after after_words ∷ []

pub expected_said : List (List ℕ)
expected_said = (30 ∷ 5 ∷ 20 ∷ 5 ∷ 0 ∷ 25 ∷ 5 ∷ []) ∷ (32 ∷ 10 ∷ 5 ∷ 17 ∷ 0 ∷ 15 ∷ 17 ∷ []) ∷ []

pub reference-said : said ≡ expected_said
unfolding said expected_said before before_words after after_words list_of uses_held words_used Ring.total_less Ring.ring_held Ring.ring_recent Ring.ring_younger Ring.ring_past Ring.path_holds Ring.path_least
reference-said = refl

-- the slot in its parts: a ring's words may be above the limit on amounts, for the limit is on what is held
pub reference-usable : Ring.path_unusable before before_words ≡ false
unfolding before before_words every stored_fits uses_held uses_beside words_used Ring.total_less Ring.ring_held Ring.word_unused Ring.totals_fit Ring.path_unusable
reference-usable = refl

-- choices from 3 to the greatest, 40 less 5, and one above; an input that leaves more than may be stored, and one that is more than can be on the way; a delayer 65
pub advances : List (Result Advanced Halted)
advances =
    Ring.advanced_of before before_words 10 3
    ∷ Ring.advanced_of before before_words 10 35
    ∷ Ring.advanced_of before before_words 10 36
    ∷ Ring.advanced_of before before_words 1_073_741_823 0
    ∷ Ring.advanced_of before before_words 18_253_610_992 0
    ∷ Ring.advanced_of (counting (delayer 65) 7 30 0) (clear_behind [] 64) 10 3
    ∷ []

pub expected_advances : List (Result Advanced Halted)
expected_advances =
    Ok (record { output = record { 0 = 8 }; fits = true; next = counting (delayer 3) 7 4 4_294_967_268; at = 1 })
    ∷ Ok (record { output = record { 0 = 40 }; fits = true; next = counting (delayer 3) 7 4 4; at = 1 })
    ∷ Err Halted.ChoiceAbove
    ∷ Ok (record { output = record { 0 = 5 }; fits = false; next = counting (delayer 3) 7 1_073_741_817 4_294_967_265; at = 1 })
    ∷ Err Halted.Unusable
    ∷ Err Halted.Unusable
    ∷ []

pub reference-advances : advances ≡ expected_advances
unfolding advances expected_advances before before_words every in_range stored_fits number_in_range greatest_output delayer_greatest held_after delayer_after uses_held uses_beside words_used Ring.total_more Ring.total_less Ring.total_next Ring.ring_held Ring.ring_recent Ring.path_holds Ring.path_least Ring.path_greatest Ring.word_unused Ring.totals_fit Ring.path_unusable Ring.path_sent Ring.path_choice_above Ring.path_holds_next Ring.path_state_kept Ring.path_advanced Ring.storable Ring.path_unready Ring.path_holds_sent Ring.ring_place Ring.advanced_of
reference-advances = refl

pub reference-kept : Ring.path_state_kept before 10 8 32 0 ≡ after
unfolding before after uses_held Ring.total_more Ring.total_next Ring.path_state_kept
reference-kept = refl

-- word 7 mod 3 has the total then; a limiter has no word
pub reference-words : word_noted before_words (Ring.ring_place before) 4 ≡ after_words
unfolding before before_words after_words uses_held words_used Ring.ring_place word_noted
reference-words = refl

pub reference-no-word : word_noted before_words (Ring.ring_place (counting (limiter 3) 7 4 0)) 4 ≡ before_words
unfolding before_words uses_held Ring.ring_place word_noted
reference-no-word = refl

-- Words that no slot wrote: of the 10 that are held a word says that 5 entered after slot t − d, another that 4,294,967,291 did, which leaves nothing to send.
pub leasts : List ℕ
leasts =
    Ring.path_least (counting (delayer 3) 8 4 4_294_967_290) (7 ∷ 9 ∷ 4_294_967_295 ∷ []) 0
    ∷ Ring.path_least (counting (delayer 3) 7 4 4_294_967_290) (7 ∷ 9 ∷ 4_294_967_295 ∷ []) 0
    ∷ Ring.path_least (counting (delayer 3) 6 4 4_294_967_290) [] 0
    ∷ []

pub reference-leasts : leasts ≡ 5 ∷ 0 ∷ 6 ∷ []
unfolding leasts uses_held words_used Ring.total_less Ring.ring_held Ring.ring_recent Ring.path_least
reference-leasts = refl

-- the most that may be held, and more; a word behind the ring; totals of an operator that has none; too few words
pub unusables : List Bool
unusables =
    Ring.path_unusable (counting (delayer 3) 7 1_073_741_813 4_294_967_286) before_words
    ∷ Ring.path_unusable (counting (delayer 3) 7 1_073_741_814 4_294_967_286) before_words
    ∷ Ring.path_unusable before (clear_behind (0 ∷ 0 ∷ 0 ∷ 1 ∷ []) 60)
    ∷ Ring.path_unusable (counting (limiter 3) 7 1 0) (clear_behind [] 64)
    ∷ Ring.path_unusable (counting (limiter 3) 7 0 1) (clear_behind [] 64)
    ∷ Ring.path_unusable before (clear_behind [] 63)
    ∷ []

pub reference-unusables : unusables ≡ false ∷ true ∷ true ∷ true ∷ true ∷ true ∷ []
unfolding unusables before before_words every stored_fits uses_held uses_beside words_used Ring.total_less Ring.ring_held Ring.word_unused Ring.totals_fit Ring.path_unusable
reference-unusables = refl
