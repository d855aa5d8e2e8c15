use Rattle.std.proofs.Common.{◌≡◌, ℕ, ◌+◌, ◌-◌, ◌/◌, ◌%◌, ◌^◌, ◌<◌, ◌≤◌, ◌≢◌, List, length, get_or, set, sym, refl, ap, ◌∙◌, subst, arith, below_more}
use Rattle.std.specs.Str.Parse.{digits_value}
use Rattle.std.proofs.lemmas.List.{ext_get_or, get_or-set_other, get_or-set_same, length-set}
use Rattle.texts.specs.Numerals.{AllDigits, padded}
use Rattle.texts.proofs.Padded.{all_padded, get_or-padded, length-padded, value-padded}
use Rattle.texts.proofs.Powers.{div_ten_more}
use Rattle.texts.proofs.digits.write_digits.Goals as goal

-- one digit more, before those that stand at the end
one_more : (xs : List ℕ) (len k rest n : ℕ) → length xs ≡ len → k < len → rest ≡ n / 10 ^ k → ((j : ℕ) → j < k → get_or xs (len - 1 - j) 0 ≡ 48 + n / 10 ^ j % 10) → (j : ℕ) → j < k + 1 → get_or (set xs (len - 1 - k) (48 + rest % 10)) (len - 1 - j) 0 ≡ 48 + n / 10 ^ j % 10
one_more xs len k rest n l h r tail =
    below_more _ _
    (λ j lt.
    let ne : len - 1 - j ≢ len - 1 - k = omega arith in
    get_or-set_other xs (len - 1 - k) (len - 1 - j) (48 + rest % 10) 0 ne ∙ tail j lt)
    (get_or-set_same xs (len - 1 - k) (48 + rest % 10) 0 (omega arith) ∙ ap (λ (x : ℕ). 48 + x % 10) r)

-- all digits in their places are the number's text
all_there : (xs : List ℕ) (n : ℕ) → ((j : ℕ) → j < length xs → get_or xs (length xs - 1 - j) 0 ≡ 48 + n / 10 ^ j % 10) → xs ≡ padded (length xs) n
all_there xs n h =
    ext_get_or 0 xs (padded (length xs) n) (sym (length-padded (length xs) n))
    (λ i lt.
    let e : length xs - 1 - (length xs - 1 - i) ≡ i = omega arith in
    ap (λ (k : ℕ). get_or xs k 0) (sym e) ∙ h (length xs - 1 - i) (omega arith) ∙ sym (get_or-padded (length xs) n i lt))

-- the same by the place that is written, counted from the front
step : (xs : List ℕ) (at rest n : ℕ) → 0 < at → at ≤ length xs → rest ≡ n / 10 ^ (length xs - at) → ((j : ℕ) → j < length xs - at → get_or xs (length xs - 1 - j) 0 ≡ 48 + n / 10 ^ j % 10) → (j : ℕ) → j < length xs - (at - 1) → get_or (set xs (at - 1) (48 + rest % 10)) (length xs - 1 - j) 0 ≡ 48 + n / 10 ^ j % 10
step xs at rest n some within r tail j lt =
    let e : length xs - 1 - (length xs - at) ≡ at - 1 = omega arith in
    ap (λ (i : ℕ). get_or (set xs i (48 + rest % 10)) (length xs - 1 - j) 0) (sym e)
    ∙ one_more xs (length xs) (length xs - at) rest n refl (omega arith) r tail j (omega arith)

pub loop-at-preserved : goal.loop-at-preserved
loop-at-preserved c =
    let len : length (set c.loop-at.out (c.loop-at.at - 1) (48 + c.loop-at.left % 10)) ≡ length c.loop-at.out = length-set _ _ _ in
    let more : length c.loop-at.out - c.loop-at.at + 1 ≡ length c.loop-at.out - (c.loop-at.at - 1) = omega arith in
    rw len (
      step c.loop-at.out c.loop-at.at c.loop-at.left c.args.n (omega arith) (omega arith) c.loop-at.invariant.1 c.loop-at.invariant.0,
      ap (λ (x : ℕ). x / 10) c.loop-at.invariant.1 ∙ div_ten_more c.args.n (length c.loop-at.out - c.loop-at.at)
          ∙ ap (λ (k : ℕ). c.args.n / 10 ^ k) more,
    )

pub returns : goal.returns
returns c =
    let out : List ℕ = c.loop-at.out in
    let len : length out ≡ length c.args.out.now = c.loop-at.auto.out in
    let e : out ≡ padded (length c.args.out.now) c.args.n =
    all_there out c.args.n (λ j lt. c.loop-at.invariant.0 j (omega arith)) ∙ ap (λ (k : ℕ). padded k c.args.n) len in
    record {
      text = e;
      all = subst AllDigits (sym e) (all_padded (length c.args.out.now) c.args.n);
      value = ap (digits_value 10) e ∙ value-padded (length c.args.out.now) c.args.n;
    }
