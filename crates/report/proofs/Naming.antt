-- The field that a refusal names.
use Rattle.std.proofs.Common.{◌≡◌, ◌≢◌, ◌<◌, ℕ, slice_index_or, ◌≤◌, Bool, true, false, not, ◌&&◌, ◌||◌, if◌then◌else◌, List, [], ◌∷◌, codes, Some, None, Option, ◌==◌, nat_le, ◌⊎◌, inl, inr, refl, sym, ap, ◌∙◌, subst, arith}
use Rattle.std.proofs.lemmas.Bool.Decides.{nat_tests}
use Rattle.std.specs.List.{filter, find}
use Rattle.std.specs.Option.{is_some, option_map, option_or}
use Rattle.std.specs.Str.{byte}
use Rattle.codes.specs.Alphabets.{one_of}
use Rattle.fields.specs.Fields.{action_letters}
use Rattle.fields.specs.Letters.{letter_in}
use Rattle.refusals.specs.Words.{RefusalParts, parts_of, tag_number}
use Rattle.refusals.specs.declared.refusal.Refusal.{Refusal}
use Rattle.refusals.specs.declared.refusal.Refusal.TheVariants.{TornSlip, FieldMissing, BadField}
use Rattle.refusals.specs.declared.tag.Tag.{Tag}
use Rattle.refusals.specs.declared.tag.Tag.TheVariants.{Action, Level, EligibleDate, Side, ExecutionTimestamp, Valuation}
use Rattle.slip.proofs.Laid.{complete, reads}
use Rattle.slip.specs.Fields.{all_or_none}
use Rattle.slip.specs.Layout.{FieldParts, IsSlip, Reads, fields_in}
use Rattle.report.specs.Judging.{Texts, all_tags, always_needed, bad, detail_tags, first_bad, missing, needed_by, needed_by_letter, party_tags, refusal_of, refusal_of_fields, refusal_of_texts}
use Rattle.report.specs.Laws.{texts_told}
use Rattle.report.specs.Named.{Bad, Least, Missing, NoTag, needs, told_needs, turn}
use Rattle.report.specs.Texts.{bad_if, text_in, unreadable}
use Rattle.report.proofs.Tags.{find_filtered, least_found, none_found}
use Rattle.report.proofs.Told.{same_case}

-- ---- the lists of needed fields hold just those that are needed

always_listed : always_needed ≡ filter (λ tag. nat_le (tag_number tag) 6) all_tags
unfolding all_tags party_tags detail_tags
always_listed = refl

-- what describes a trade, or a valuation
abbrev chosen : Bool → Bool → Tag → Bool
chosen describes values Level = describes
chosen describes values EligibleDate = describes
chosen describes values Side = describes
chosen describes values ExecutionTimestamp = describes
chosen describes values Valuation = values
chosen describes values tag = false

chosen_listed : (describes values : Bool) → (describes ≡ true → values ≡ false) → (if describes then Level ∷ EligibleDate ∷ Side ∷ ExecutionTimestamp ∷ [] else if values then Valuation ∷ [] else []) ≡ filter (chosen describes values) all_tags
unfolding all_tags party_tags detail_tags
chosen_listed true true h = absurd (let k : true ≡ false = h refl in cc)
chosen_listed true false h = refl
chosen_listed false true h = refl
chosen_listed false false h = refl

not_both : (action : ℕ) → one_of (codes "NPMR") action ≡ true → (action == byte "V") ≡ false
not_both action h = grind (arith, nat_tests)

letter_listed : (action : ℕ) → needed_by_letter action ≡ filter (needs action) all_tags
unfolding all_tags party_tags detail_tags
letter_listed action = chosen_listed (one_of (codes "NPMR") action) (action == byte "V") (not_both action)

told_listed : (text : Option (List ℕ)) → needed_by text ≡ filter (told_needs text) all_tags
unfolding all_tags party_tags detail_tags
told_listed None = refl
told_listed (Some []) = refl
told_listed (Some (action ∷ [])) = letter_listed action
told_listed (Some (a ∷ (b ∷ rest))) = refl

-- a letter that is no action needs nothing
letter_needs_nothing : (action : ℕ) (tag : Tag) → one_of action_letters action ≡ false → needs action tag ≡ false
letter_needs_nothing action Level h = grind (arith, nat_tests)
letter_needs_nothing action EligibleDate h = grind (arith, nat_tests)
letter_needs_nothing action Side h = grind (arith, nat_tests)
letter_needs_nothing action ExecutionTimestamp h = grind (arith, nat_tests)
letter_needs_nothing action Valuation h = grind (arith, nat_tests)
letter_needs_nothing action tag h = refl

letter_bad : (b : Bool) (action : ℕ) → not (is_some (if b then Some action else None)) ≡ true → b ≡ false
letter_bad true action h = absurd (cc)
letter_bad false action h = refl

bad_needs_nothing : (text : Option (List ℕ)) (tag : Tag) → unreadable (letter_in action_letters) text ≡ true → told_needs text tag ≡ false
bad_needs_nothing None tag h = refl
bad_needs_nothing (Some []) tag h = refl
bad_needs_nothing (Some (action ∷ [])) tag h = letter_needs_nothing action tag (letter_bad (one_of action_letters action) action h)
bad_needs_nothing (Some (a ∷ (b ∷ rest))) tag h = refl

-- ---- what each step of the judging finds

is_absent : (text : Option (List ℕ)) → not (is_some text) ≡ true → text ≡ None
is_absent None h = refl
is_absent (Some text) h = absurd (cc)

absent : (text : Option (List ℕ)) → text ≡ None → not (is_some text) ≡ true
absent None h = refl
absent (Some text) h = absurd (cc)

both : (a b : Bool) → (a && b) ≡ true → (a ≡ true) × (b ≡ true)
both true true h = (refl, refl)
both true false h = absurd (cc)
both false b h = absurd (cc)

joined : (a b : Bool) → a ≡ true → b ≡ true → (a && b) ≡ true
joined true true g h = refl
joined true false g h = h
joined false b g h = g

by_left : (a b : Bool) → a ≡ true → (a || b) ≡ true
by_left true b h = refl
by_left false b h = absurd (cc)

by_right : (a b : Bool) → b ≡ true → (a || b) ≡ true
by_right true b h = refl
by_right false true h = refl
by_right false false h = absurd (cc)

-- the action comes first, and the others by their tags
turn_below : (tag : Tag) → turn tag ≤ tag_number tag
turn_below Action = omega arith
turn_below tag = omega arith

turn_least : (texts : Texts) (tag other : Tag) → bad texts Action ≡ false → bad texts other ≡ true → tag_number tag ≤ tag_number other → turn tag ≤ turn other
turn_least texts tag Action g b h = absurd (let k : true ≡ false = sym b ∙ g in cc)
turn_least texts tag other g b h = let k : turn tag ≤ tag_number tag = turn_below tag in omega arith

module _ (texts : Texts) where
  abbrev lacks_always : Tag → Bool
  lacks_always tag = nat_le (tag_number tag) 6 && not (is_some (texts tag))

  abbrev lacks_by_action : Tag → Bool
  lacks_by_action tag = told_needs (texts Action) tag && not (is_some (texts tag))

  always_found : missing texts always_needed ≡ find lacks_always all_tags
  always_found = ap (missing texts) always_listed ∙ find_filtered (λ tag. nat_le (tag_number tag) 6) (λ tag. not (is_some (texts tag))) all_tags

  by_action_found : missing texts (needed_by (texts Action)) ≡ find lacks_by_action all_tags
  by_action_found = ap (missing texts) (told_listed (texts Action)) ∙ find_filtered (told_needs (texts Action)) (λ tag. not (is_some (texts tag))) all_tags

  always_missing : (tag : Tag) → lacks_always tag ≡ true → Missing texts tag
  always_missing tag h =
      let p = both (nat_le (tag_number tag) 6) (not (is_some (texts tag))) h in
      (by_left _ (told_needs (texts Action) tag) p.0, is_absent (texts tag) p.1)

  by_action_missing : (tag : Tag) → lacks_by_action tag ≡ true → Missing texts tag
  by_action_missing tag h =
      let p = both (told_needs (texts Action) tag) (not (is_some (texts tag))) h in
      (by_right (nat_le (tag_number tag) 6) _ p.0, is_absent (texts tag) p.1)

  -- a missing field is one that every report needs, or that the action needs
  lacked : (tag : Tag) (always : Bool) → nat_le (tag_number tag) 6 ≡ always → Missing texts tag → (lacks_always tag ≡ true) ⊎ ((always ≡ false) × (lacks_by_action tag ≡ true))
  lacked tag true is m = inl (joined _ _ is (absent (texts tag) m.1))
  lacked tag false is m =
      let needs : told_needs (texts Action) tag ≡ true = subst (λ b. (b || told_needs (texts Action) tag) ≡ true) is m.0 in
      inr (refl, joined _ _ needs (absent (texts tag) m.1))

  ahead : (tag other : Tag) → nat_le (tag_number tag) 6 ≡ true → nat_le (tag_number other) 6 ≡ false → tag_number tag ≤ tag_number other
  ahead tag other h k = grind (arith, nat_tests)

  first_missing : (tag : Tag) → find lacks_always all_tags ≡ Some tag → Least tag_number (Missing texts) tag
  first_missing tag e =
      let l = least_found lacks_always tag e in
      record {
        holds = always_missing tag l.holds;
        least = λ other m. elim (lacked other (nat_le (tag_number other) 6) refl m) [ inl h ↦ l.least other h | inr h ↦ ahead tag other (both _ _ l.holds).0 h.0 ];
      }

  none_missing : find lacks_always all_tags ≡ None → find lacks_by_action all_tags ≡ None → NoTag (Missing texts)
  none_missing a c tag m =
      elim (lacked tag (nat_le (tag_number tag) 6) refl m) [
        | inl h ↦ absurd (let k : lacks_always tag ≡ false = none_found lacks_always a tag in let n : true ≡ false = sym h ∙ k in cc)
        | inr h ↦ absurd (let k : lacks_by_action tag ≡ false = none_found lacks_by_action c tag in let n : true ≡ false = sym h.1 ∙ k in cc)
      ]

  next_missing : (tag : Tag) → find lacks_always all_tags ≡ None → find lacks_by_action all_tags ≡ Some tag → Least tag_number (Missing texts) tag
  next_missing tag a e =
      let l = least_found lacks_by_action tag e in
      record {
        holds = by_action_missing tag l.holds;
        least = λ other m. elim (lacked other (nat_le (tag_number other) 6) refl m) [
          | inl h ↦ absurd (let k : lacks_always other ≡ false = none_found lacks_always a other in let n : true ≡ false = sym h ∙ k in cc)
          | inr h ↦ l.least other h.1
        ];
      }

  -- nothing is needed by an action that is bad
  bad_action_lacks : bad texts Action ≡ true → find lacks_always all_tags ≡ None → NoTag (Missing texts)
  bad_action_lacks h a tag m =
      elim (lacked tag (nat_le (tag_number tag) 6) refl m) [
        | inl l ↦ absurd (let k : lacks_always tag ≡ false = none_found lacks_always a tag in let n : true ≡ false = sym l ∙ k in cc)
        | inr l ↦ absurd (let n : true ≡ false = sym (both (told_needs (texts Action) tag) _ l.1).0 ∙ bad_needs_nothing (texts Action) tag h in cc)
      ]

  first_bad_named : (tag : Tag) → bad texts Action ≡ false → first_bad texts all_tags ≡ Some tag → Least turn (Bad texts) tag
  first_bad_named tag g e =
      let l = least_found (bad texts) tag e in
      record { holds = l.holds; least = λ other h. turn_least texts tag other g h (l.least other h) }

-- the steps of the judging, one after the other
abbrev judged : Option Tag → Bool → Option Tag → Option Tag → Option Refusal
judged always action by_action spelled = option_or (option_map FieldMissing always) (option_or (bad_if action Action) (option_or (option_map FieldMissing by_action) (option_map BadField spelled)))

module _ (texts : Texts) where
  missing_in_turn : (always : Option Tag) (action : Bool) (by_action spelled : Option Tag) (tag : Tag) → find (lacks_always texts) all_tags ≡ always → find (lacks_by_action texts) all_tags ≡ by_action → judged always action by_action spelled ≡ Some (FieldMissing tag) → Least tag_number (Missing texts) tag
  missing_in_turn (Some t) action by_action spelled tag a c e = let k : t ≡ tag = cc in first_missing texts tag (a ∙ ap Some k)
  missing_in_turn None true by_action spelled tag a c e = absurd (cc)
  missing_in_turn None false (Some t) spelled tag a c e = let k : t ≡ tag = cc in next_missing texts tag a (c ∙ ap Some k)
  missing_in_turn None false None (Some t) tag a c e = absurd (cc)
  missing_in_turn None false None None tag a c e = absurd (cc)

  bad_in_turn : (always : Option Tag) (action : Bool) (by_action spelled : Option Tag) (tag : Tag) → find (lacks_always texts) all_tags ≡ always → bad texts Action ≡ action → find (lacks_by_action texts) all_tags ≡ by_action → first_bad texts all_tags ≡ spelled → judged always action by_action spelled ≡ Some (BadField tag) → Least turn (Bad texts) tag × NoTag (Missing texts)
  bad_in_turn (Some t) action by_action spelled tag a b c d e = absurd (cc)
  bad_in_turn None true by_action spelled tag a b c d e =
      let k : Action ≡ tag = cc in
      (subst (Least turn (Bad texts)) k (record { holds = b; least = λ other h. omega arith }), bad_action_lacks texts b a)
  bad_in_turn None false (Some t) spelled tag a b c d e = absurd (cc)
  bad_in_turn None false None (Some t) tag a b c d e = let k : t ≡ tag = cc in (first_bad_named texts tag b (d ∙ ap Some k), none_missing texts a c)
  bad_in_turn None false None None tag a b c d e = absurd (cc)

  whole_in_turn : (always : Option Tag) (action : Bool) (by_action spelled : Option Tag) → find (lacks_always texts) all_tags ≡ always → bad texts Action ≡ action → find (lacks_by_action texts) all_tags ≡ by_action → first_bad texts all_tags ≡ spelled → NoTag (Missing texts) → NoTag (Bad texts) → judged always action by_action spelled ≡ None
  whole_in_turn (Some t) action by_action spelled a b c d m n = absurd (m t (first_missing texts t a).holds)
  whole_in_turn None true by_action spelled a b c d m n = absurd (n Action b)
  whole_in_turn None false (Some t) spelled a b c d m n = absurd (m t (next_missing texts t a c).holds)
  whole_in_turn None false None (Some t) a b c d m n = absurd (n t (least_found (bad texts) t d).holds)
  whole_in_turn None false None None a b c d m n = refl

  missing_told : (tag : Tag) → refusal_of_texts texts ≡ Some (FieldMissing tag) → Least tag_number (Missing texts) tag
  missing_told tag e = missing_in_turn _ (bad texts Action) _ (first_bad texts all_tags) tag (sym (always_found texts)) (sym (by_action_found texts)) e

  bad_told : (tag : Tag) → refusal_of_texts texts ≡ Some (BadField tag) → Least turn (Bad texts) tag × NoTag (Missing texts)
  bad_told tag e = bad_in_turn _ (bad texts Action) _ (first_bad texts all_tags) tag (sym (always_found texts)) refl (sym (by_action_found texts)) refl e

  whole_told : NoTag (Missing texts) → NoTag (Bad texts) → refusal_of_texts texts ≡ None
  whole_told m n = whole_in_turn _ (bad texts Action) _ (first_bad texts all_tags) (sym (always_found texts)) refl (sym (by_action_found texts)) refl m n

  not_torn : (always : Option Tag) (action : Bool) (by_action spelled : Option Tag) → judged always action by_action spelled ≢ Some TornSlip
  not_torn (Some t) action by_action spelled e = cc
  not_torn None true by_action spelled e = cc
  not_torn None false (Some t) spelled e = cc
  not_torn None false None (Some t) e = cc
  not_torn None false None None e = cc

  three : (always : Option Tag) (action : Bool) (by_action spelled : Option Tag) (told : RefusalParts) → option_map parts_of (judged always action by_action spelled) ≡ Some told → told.number ≤ 3
  three (Some t) action by_action spelled told e = let k : parts_of (FieldMissing t) ≡ told = cc in subst (λ p. p.number ≤ 3) k (omega arith)
  three None true by_action spelled told e = let k : parts_of (BadField Action) ≡ told = cc in subst (λ p. p.number ≤ 3) k (omega arith)
  three None false (Some t) spelled told e = let k : parts_of (FieldMissing t) ≡ told = cc in subst (λ p. p.number ≤ 3) k (omega arith)
  three None false None (Some t) told e = let k : parts_of (BadField t) ≡ told = cc in subst (λ p. p.number ≤ 3) k (omega arith)
  three None false None None told e = absurd (cc)

-- ---- over bytes

missing_in_fields : (fields : Option (List FieldParts)) (tag : Tag) → refusal_of_fields fields ≡ Some (FieldMissing tag) → Least tag_number (Missing (text_in (all_or_none fields))) tag
missing_in_fields None tag e = absurd (cc)
missing_in_fields (Some fields) tag e = missing_told (text_in fields) tag e

bad_in_fields : (fields : Option (List FieldParts)) (tag : Tag) → refusal_of_fields fields ≡ Some (BadField tag) → Least turn (Bad (text_in (all_or_none fields))) tag × NoTag (Missing (text_in (all_or_none fields)))
bad_in_fields None tag e = absurd (cc)
bad_in_fields (Some fields) tag e = bad_told (text_in fields) tag e

three_in_fields : (fields : Option (List FieldParts)) (told : RefusalParts) → option_map parts_of (refusal_of_fields fields) ≡ Some told → told.number ≤ 3
three_in_fields None told e = let k : parts_of TornSlip ≡ told = cc in subst (λ p. p.number ≤ 3) k (omega arith)
three_in_fields (Some fields) told e =
    let texts : Texts = text_in fields in
    three texts (missing texts always_needed) (bad texts Action) (missing texts (needed_by (texts Action))) (first_bad texts all_tags) told e

pub numbers : (bytes : List ℕ) (told : RefusalParts) → refusal_of bytes ≡ Some told → told.number ≤ 3
numbers bytes told e = three_in_fields (fields_in bytes) told e

torn_by : (bytes : List ℕ) (told : Option (List FieldParts)) → Reads bytes told → ((fields : List FieldParts) → IsSlip bytes fields → ⊥) → refusal_of_fields told ≡ Some TornSlip
torn_by bytes None r n = refl
torn_by bytes (Some fields) r n = absurd (n fields r)

pub torn : (bytes : List ℕ) → ((place : ℕ) → slice_index_or bytes place 0 < 256) → ((fields : List FieldParts) → IsSlip bytes fields → ⊥) → refusal_of bytes ≡ Some (parts_of TornSlip)
torn bytes b n = ap (option_map parts_of) (torn_by bytes (fields_in bytes) (reads bytes (fields_in bytes) b refl) n)

pub missing_named : (bytes : List ℕ) (tag : Tag) → refusal_of bytes ≡ Some (parts_of (FieldMissing tag)) → Least tag_number (Missing (texts_told bytes)) tag
missing_named bytes tag e = missing_in_fields (fields_in bytes) tag (same_case (refusal_of_fields (fields_in bytes)) (FieldMissing tag) e)

pub bad_named : (bytes : List ℕ) (tag : Tag) → refusal_of bytes ≡ Some (parts_of (BadField tag)) → Least turn (Bad (texts_told bytes)) tag × NoTag (Missing (texts_told bytes))
bad_named bytes tag e = bad_in_fields (fields_in bytes) tag (same_case (refusal_of_fields (fields_in bytes)) (BadField tag) e)

pub whole_read : (bytes : List ℕ) (fields : List FieldParts) → IsSlip bytes fields → NoTag (Missing (text_in fields)) → NoTag (Bad (text_in fields)) → refusal_of bytes ≡ None
whole_read bytes fields s m n = ap (λ o. option_map parts_of (refusal_of_fields o)) (complete bytes fields s) ∙ ap (option_map parts_of) (whole_told (text_in fields) m n)

pub slip_not_torn : (bytes : List ℕ) (fields : List FieldParts) → IsSlip bytes fields → refusal_of bytes ≢ Some (parts_of TornSlip)
slip_not_torn bytes fields s e =
    let texts : Texts = text_in fields in
    not_torn texts (missing texts always_needed) (bad texts Action) (missing texts (needed_by (texts Action))) (first_bad texts all_tags)
    (sym (ap refusal_of_fields (complete bytes fields s)) ∙ same_case (refusal_of_fields (fields_in bytes)) TornSlip e)
