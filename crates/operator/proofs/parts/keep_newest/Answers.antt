-- A word at a time: what stays of it is what the younger ones leave room for. The words behind are those of the slice's rest.
use Rattle.std.proofs.Common.{◌≡◌, ℕ, ◌+◌, ◌-◌, ◌<◌, ◌≤◌, zero, suc, min, List, length, take, drop, set, sym, refl, ap, ◌∙◌, ap₂, add-one, arith, length-take-le, get_or-take, get_or-drop, get_or-set_other, get_or-set_same, below_none, below_more}
use Rattle.std.proofs.lemmas.List.{get_or_append_left, get_or-append_right}
use Rattle.quantity.specs.Sums.{total}
use Rattle.quantity.proofs.Sums.{total-zero, total-next, total-same}
use Rattle.operator.specs.Held.{Held}
use Rattle.operator.specs.Delayer.{of_age}
use Rattle.words.specs.Stored.{word_at}
use Rattle.operator.proofs.parts.keep_newest.Goals as goal
use Rattle.operator.proofs.parts.keep_newest.Invariants.{aged}

-- the ages of the first words are those of all
aged-same : (x : Held) (words : List ℕ) (count input a : ℕ) → x.past ≡ word_at words → a ≤ count → of_age x input a ≡ aged (take count words) input a
unfolding of_age
aged-same x words count input zero same within = refl
aged-same x words count input (suc j) same within = ap (λ (past : ℕ → ℕ). past j) same ∙ sym (get_or-take count words j 0 (omega arith))

pub loop-word-init : goal.loop-word-init
unfolding of_age
loop-word-init c = record {
  kept_below = below_none _;
  same_behind = λ k h. refl;
  arriving = refl;
  room = omega (arith, total-zero (aged (take c.args.count c.args.words.now) c.args.input));
}

pub loop-word-preserved : goal.loop-word-preserved
unfolding of_age
loop-word-preserved c =
    let turn = c.loop-word in
    let inv = turn.invariant in
    let now = turn.word-items in
    let at = turn.word-index in
    let first = take c.args.count c.args.words.now in
    let stays = c.min-stays.result in
    let inside : at < length now = omega arith in
    record {
      kept_below = below_more (λ (k : ℕ). word_at (set now at stays) k ≡ min (aged first c.args.input k) (c.args.kept - total (aged first c.args.input) k)) at
          (λ k less. get_or-set_other now at k stays 0 (λ e. omega arith) ∙ inv.kept_below k less)
          (get_or-set_same now at stays 0 inside ∙ c.min-stays.ensures ∙ ap₂ min inv.arriving inv.room);
      same_behind = λ k more. get_or-set_other now at k stays 0 (λ e. omega arith) ∙ inv.same_behind k (omega arith);
      arriving = c.from-old.ensures ∙ rw add-one (inv.same_behind at (omega arith));
      room = omega (arith, inv.room, inv.arriving, total-next (aged first c.args.input) at, c.min-stays.ensures);
    }

pub returns : goal.returns
returns c =
    let a = c.args in
    let inv = c.loop-word.invariant in
    let now = c.loop-word.word-items in
    let rest = drop a.count a.words.now in
    let size : length now ≡ a.count = omega (arith, length-take-le a.count a.words.now c.requires.0) in
    record {
      kept_below = λ x past k less.
          get_or_append_left now rest 0 k (omega arith)
          ∙ inv.kept_below k (omega arith)
          ∙ sym (ap₂ (λ (n t : ℕ). min n (a.kept - t)) (aged-same x a.words.now a.count a.input k past (omega arith)) (total-same _ _ k (λ j below. aged-same x a.words.now a.count a.input j past (omega arith))));
      same_behind = λ k more. get_or-append_right now rest a.count k 0 size more ∙ get_or-drop a.count a.words.now (k - a.count) 0 ∙ ap (word_at a.words.now) (let e : a.count + (k - a.count) ≡ k = omega arith in e);
    }
