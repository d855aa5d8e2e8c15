use Rattle.std.proofs.Common.{◌≡◌, ℕ, ◌+◌, ◌<◌, ◌≤◌, Less, Equal, sym, arith}
use Rattle.std.specs.Cmp.{nat_cmp_is, nat_cmp_total}
use Rattle.std.proofs.lemmas.Bool.Decides.{nat_tests}
use Rattle.calendar.specs.Gregorian.{day_order, weekday_at}
use Rattle.calendar.specs.Easter.{easter_sunday, full_moon}
use Rattle.calendar.proofs.Civil.{civil_back, civil_of, date_names, date_read, one_text, text_names}
use Rattle.calendar.proofs.Form.{one_form}
use Rattle.calendar.proofs.Parts.{century_days, number_below}
use Rattle.calendar.proofs.laws.calendar_laws.Goals as goal

less : (a b : ℕ) → (day_order a b ≡ Less → a < b) × (a < b → day_order a b ≡ Less)
less a b = (λ e. grind (arith, nat_tests), λ h. sym (nat_cmp_is a b Less h))

equal : (a b : ℕ) → (day_order a b ≡ Equal → a ≡ b) × (a ≡ b → day_order a b ≡ Equal)
equal a b = (λ e. grind (arith, nat_tests), λ h. sym (nat_cmp_is a b Equal h))

easter_first : (y : ℕ) → (weekday_at (easter_sunday y) ≡ 6) × (full_moon y < easter_sunday y) × (easter_sunday y ≤ full_moon y + 7)
unfolding easter_sunday
easter_first y = let n : ℕ = full_moon y in (omega arith, omega arith, omega arith)

pub returns : goal.returns
returns c =
    record {
      days_in_all = century_days;
      number_exists = λ n h. (civil_of n h).0;
      number_kept = λ n h. (civil_of n h).1;
      day_numbered = number_below;
      day_kept = civil_back;
      easter_first = easter_first;
      order_flipped = λ a b. nat_cmp_total.antisymm a b;
      order_less = less;
      order_equal = equal;
      one_form = one_form;
      read_back = λ n h. date_read _ n (text_names n h);
      written_back = λ text n e. one_text text n (date_names text n e);
    }
