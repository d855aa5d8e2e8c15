-- Rows read one after the other.
use Rattle.std.proofs.Common.{◌≡◌, ℕ, ◌+◌, ◌<◌, Bool, true, false, ◌&&◌, if◌then◌else◌, List, [], ◌∷◌, ◌++◌, length, take, drop, get_or, slice_set, Some, None, refl, ap, sym, ◌∙◌, arith, take-append-drop}
use Rattle.std.proofs.lemmas.List.{drop_more, length-set, map_push, take_more, take_more_set}
use Rattle.checks.specs.declared.field.Field.{Field}
use Rattle.built_sheets.specs.Rules.{row_fits, rows_fit}
use Rattle.built_sheets.specs.Rows.{categories_of, codes_of}
use Rattle.built_sheets.specs.Tabled.{RowNumbers, numbers_of}
use Rattle.built_sheets.specs.declared.tabled.row.TabledRow.{TabledRow}

-- rows fit from a place on if the row there does and those behind it do
module _ (codes categories : List ℕ) (fields : List Field) (i : ℕ) (d : Field) (a : i < length codes) (b : i < length categories) (c : i < length fields) where
  fit_here : rows_fit (drop i codes) (drop i categories) (drop i fields) ≡ (row_fits (get_or codes i 0) (get_or categories i 0) (get_or fields i d) && rows_fit (drop (i + 1) codes) (drop (i + 1) categories) (drop (i + 1) fields))
  fit_here = rw (drop_more codes i 0 a, drop_more categories i 0 b, drop_more fields i d c) refl

parts : (t : Bool) (x y : RowNumbers) → Some x ≡ (if t then Some y else None) → (t ≡ true) × (x ≡ y)
parts true x y e = (refl, cc)
parts false x y e = absurd (cc)

-- a row that was read, behind those before it
module _ (rows : List TabledRow) (codes categories : List ℕ) (fields : List Field) (i n : ℕ) (d : Field) (row : TabledRow) (l : length rows ≡ n) (a : length codes ≡ n) (b : length categories ≡ n) (c : length fields ≡ n) (k : i < n) where
  pub row_down : (rows_fit (drop i codes) (drop i categories) (drop i fields) ≡ rows_fit codes categories fields) × ((codes_of (take i rows) ≡ take i codes) × (categories_of (take i rows) ≡ take i categories)) → Some (numbers_of row) ≡ (if row_fits (get_or codes i 0) (get_or categories i 0) (get_or fields i d) then Some (record { code = get_or codes i 0; category = get_or categories i 0 }) else None) → (length (slice_set rows i row) ≡ n) × ((rows_fit (drop (i + 1) codes) (drop (i + 1) categories) (drop (i + 1) fields) ≡ rows_fit codes categories fields) × ((codes_of (take (i + 1) (slice_set rows i row)) ≡ take (i + 1) codes) × (categories_of (take (i + 1) (slice_set rows i row)) ≡ take (i + 1) categories)))
  row_down v e =
      let p = parts (row_fits (get_or codes i 0) (get_or categories i 0) (get_or fields i d)) (numbers_of row) _ e in
      let here = fit_here codes categories fields i d (omega arith) (omega arith) (omega arith) in
      let set = take_more_set rows i row (omega arith) in (
        length-set rows i row ∙ l,
        (
          sym (ap (λ t. t && rows_fit (drop (i + 1) codes) (drop (i + 1) categories) (drop (i + 1) fields)) p.0) ∙ sym here ∙ v.0,
          (
            ap codes_of set ∙ map_push _ (take i rows) row ∙ ap (λ xs. xs ++ (numbers_of row).code ∷ []) v.1.0 ∙ ap (λ x. take i codes ++ x.code ∷ []) p.1 ∙ sym (take_more codes i 0 (omega arith)),
            ap categories_of set ∙ map_push _ (take i rows) row ∙ ap (λ xs. xs ++ (numbers_of row).category ∷ []) v.1.1 ∙ ap (λ x. take i categories ++ x.category ∷ []) p.1 ∙ sym (take_more categories i 0 (omega arith)),
          ),
        ),
      )

-- a sheet has the bytes that its rows were read from
pub bytes_back : (codes categories : List ℕ) (rest : List ℕ) → codes ≡ take 15 rest → categories ≡ drop 15 rest → codes ++ categories ≡ rest
bytes_back codes categories rest e f = ap (λ xs. xs ++ categories) e ∙ ap (λ xs. take 15 rest ++ xs) f ∙ take-append-drop 15 rest
