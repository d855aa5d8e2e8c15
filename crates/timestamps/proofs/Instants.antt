-- Times and timestamps, read and written.
use Rattle.std.proofs.Common.{◌≡◌, ℕ, ◌+◌, ◌*◌, ◌/◌, ◌%◌, ◌<◌, ◌≤◌, true, eqb, List, [], ◌∷◌, ◌++◌, length, get_or, take, drop, Some, None, Option, sym, refl, ap, ◌∙◌, inl, inr, arith}
use Rattle.std.proofs.lemmas.List.{drop_all, drop-drop, drop_more, take-append-drop}
use Rattle.std.proofs.lemmas.Bool.{and_parts, cases_Bool, cond-true, eqb-true}
use Rattle.std.proofs.lemmas.Bool.Decides.{nat_tests}
use Rattle.texts.specs.ThreeNumbers.{three_of, three_text}
use Rattle.calendar.specs.Text.{NamesDay, date_of, date_text}
use Rattle.timestamps.specs.Times.{NamesInstant, ReadsTimestamp, clock_of, has_marks, instant_at, is_time, second_of_three, timestamp_of, timestamp_text}
use Rattle.calendar.proofs.Civil.{date_names, date_read, one_text, text_names}
use Rattle.texts.proofs.ThreeNumbers.{three_back, three_text_lem}

clock_read : (h m s : ℕ) → h ≤ 23 → m ≤ 59 → s ≤ 59 → clock_of (three_text 2 58 h m s) ≡ Some (h * 3600 + m * 60 + s)
unfolding clock_of
clock_read h m s a b c =
    let time : is_time h m s ≡ true = grind (arith, nat_tests) in
    ap second_of_three (three_text_lem 2 58 h m s (omega arith) (omega arith) (omega arith)) ∙ cond-true (is_time h m s) (Some (h * 3600 + m * 60 + s)) None time

-- the text names this time of the day
record NamesTime (text : List ℕ) (n : ℕ) : Type 0 where
  hour : ℕ
  minute : ℕ
  second : ℕ
  spelt : text ≡ three_text 2 58 hour minute second
  hours : hour ≤ 23
  minutes : minute ≤ 59
  seconds : second ≤ 59
  is : hour * 3600 + minute * 60 + second ≡ n

from_three : (text : List ℕ) (o : Option (ℕ × ℕ × ℕ)) (n : ℕ) → three_of 2 58 text ≡ o → second_of_three o ≡ Some n → NamesTime text n
from_three text None n e h = absurd (cc)
from_three text (Some p) n e h =
    elim (cases_Bool (is_time p.0 p.1 p.2)) [
      | inl t ↦
          let s : Some (p.0 * 3600 + p.1 * 60 + p.2) ≡ Some n = rw t at h in
          record {
            hour = p.0;
            minute = p.1;
            second = p.2;
            spelt = three_back 2 58 text p e;
            hours = grind (arith, nat_tests);
            minutes = grind (arith, nat_tests);
            seconds = grind (arith, nat_tests);
            is = cc;
          }
      | inr f ↦
          let s : None ≡ Some n = rw f at h in
          absurd (cc)
    ]

clock_names : (text : List ℕ) (n : ℕ) → clock_of text ≡ Some n → NamesTime text n
unfolding clock_of
clock_names text n e = from_three text (three_of 2 58 text) n refl e

-- a day, a time and the two marks are read as their instant
pub instant_read : (text : List ℕ) (i : ℕ) → NamesInstant text i → timestamp_of text ≡ Some i
unfolding timestamp_of
instant_read text i s =
    let d : NamesDay s.date s.day = s.names in
    let day : List ℕ = three_text 4 45 d.year d.month d.day in
    let clock : List ℕ = three_text 2 58 s.hour s.minute s.second in
    let whole : text ≡ day ++ (84 ∷ (clock ++ (90 ∷ []))) = s.spelt ∙ ap (λ (t : List ℕ). t ++ (84 ∷ (clock ++ (90 ∷ [])))) d.spelt in
    ap timestamp_of whole
    ∙ ap (λ (o : Option ℕ). instant_at o (clock_of clock)) (ap date_of (sym d.spelt) ∙ date_read s.date s.day d)
    ∙ ap (instant_at (Some s.day)) (clock_read s.hour s.minute s.second s.hours s.minutes s.seconds)
    ∙ ap Some s.is

-- a text of twenty bytes in its four parts
split_stamp : (t : List ℕ) → length t ≡ 20 → t ≡ take 10 t ++ (get_or t 10 0 ∷ (take 8 (drop 11 t) ++ (get_or t 19 0 ∷ [])))
split_stamp t len =
    let end : drop 20 t ≡ [] = drop_all 20 t (omega arith) in
    let last : drop 19 t ≡ get_or t 19 0 ∷ [] = drop_more t 19 0 (omega arith) ∙ ap (λ (u : List ℕ). get_or t 19 0 ∷ u) end in
    let rest : drop 11 t ≡ take 8 (drop 11 t) ++ (get_or t 19 0 ∷ []) =
    sym (take-append-drop 8 (drop 11 t)) ∙ ap (λ (u : List ℕ). take 8 (drop 11 t) ++ u) (drop-drop 8 11 t ∙ last) in
    sym (take-append-drop 10 t) ∙ ap (λ (u : List ℕ). take 10 t ++ u) (drop_more t 10 0 (omega arith) ∙ ap (λ (u : List ℕ). get_or t 10 0 ∷ u) rest)

from_parts : (text : List ℕ) (day second : Option ℕ) (i : ℕ) → has_marks text ≡ true → date_of (take 10 text) ≡ day → clock_of (take 8 (drop 11 text)) ≡ second → instant_at day second ≡ Some i → NamesInstant text i
from_parts text None second i h d c e = absurd (cc)
from_parts text (Some day) None i h d c e = absurd (cc)
from_parts text (Some day) (Some k) i h d c e =
    let t : NamesTime (take 8 (drop 11 text)) k = clock_names (take 8 (drop 11 text)) k c in
    let p = and_parts (eqb (length text) 20) _ h in
    let q = and_parts (eqb (get_or text 10 0) 84) _ p.1 in
    let clock : List ℕ = three_text 2 58 t.hour t.minute t.second in
    let sum : day * 86400 + k ≡ i = cc in
    record {
      date = take 10 text;
      day = day;
      hour = t.hour;
      minute = t.minute;
      second = t.second;
      spelt =
          split_stamp text (eqb-true (length text) 20 p.0)
          ∙ ap (λ (b : ℕ). take 10 text ++ (b ∷ (take 8 (drop 11 text) ++ (get_or text 19 0 ∷ [])))) (eqb-true (get_or text 10 0) 84 q.0)
          ∙ ap (λ (u : List ℕ). take 10 text ++ (84 ∷ (u ++ (get_or text 19 0 ∷ [])))) t.spelt
          ∙ ap (λ (b : ℕ). take 10 text ++ (84 ∷ (clock ++ (b ∷ [])))) (eqb-true (get_or text 19 0) 90 q.1);
      names = date_names (take 10 text) day d;
      hours = t.hours;
      minutes = t.minutes;
      seconds = t.seconds;
      is = ap (λ (n : ℕ). day * 86400 + n) t.is ∙ sum;
    }

pub instant_names : (text : List ℕ) (i : ℕ) → timestamp_of text ≡ Some i → NamesInstant text i
unfolding timestamp_of
instant_names text i e =
    elim (cases_Bool (has_marks text)) [
      | inl t ↦ from_parts text (date_of (take 10 text)) (clock_of (take 8 (drop 11 text))) i t refl refl (rw t at e)
      | inr f ↦ (let s : None ≡ Some i = rw f at e in absurd (cc))
    ]

-- each instant has one text
pub one_stamp : (text : List ℕ) (i : ℕ) → NamesInstant text i → text ≡ timestamp_text i
one_stamp text i s =
    let k : ℕ = s.hour * 3600 + s.minute * 60 + s.second in
    let below : k < 86400 = omega (arith, s.hours, s.minutes, s.seconds) in
    let day : i / 86400 ≡ s.day = omega (arith, s.is, below) in
    let second : i % 86400 ≡ k = omega (arith, s.is, below) in
    let h : i % 86400 / 3600 ≡ s.hour = omega (arith, second, s.hours, s.minutes, s.seconds) in
    let m : i % 86400 / 60 % 60 ≡ s.minute = omega (arith, second, s.hours, s.minutes, s.seconds) in
    let n : i % 86400 % 60 ≡ s.second = omega (arith, second, s.hours, s.minutes, s.seconds) in
    let e : s.date ≡ date_text (i / 86400) = one_text s.date s.day s.names ∙ ap date_text (sym day) in
    rw (h, m, n) (s.spelt ∙ ap (λ (t : List ℕ). t ++ (84 ∷ (three_text 2 58 s.hour s.minute s.second ++ (90 ∷ [])))) e)

pub stamp_names : (i : ℕ) → i / 86400 < 36525 → NamesInstant (timestamp_text i) i
stamp_names i h =
    record {
      date = date_text (i / 86400);
      day = i / 86400;
      hour = i % 86400 / 3600;
      minute = i % 86400 / 60 % 60;
      second = i % 86400 % 60;
      spelt = refl;
      names = text_names (i / 86400) h;
      hours = omega arith;
      minutes = omega arith;
      seconds = omega arith;
      is = omega arith;
    }

pub reads_stamp : (text : List ℕ) (o : Option ℕ) → o ≡ timestamp_of text → ReadsTimestamp text o
reads_stamp text o e i = (λ s. e ∙ instant_read text i s, λ k. instant_names text i (sym e ∙ k))

pub stamp_back : (text : List ℕ) (i : ℕ) → i / 86400 < 36525 → text ≡ timestamp_text i → timestamp_of text ≡ Some i
stamp_back text i h e = ap timestamp_of e ∙ instant_read (timestamp_text i) i (stamp_names i h)
