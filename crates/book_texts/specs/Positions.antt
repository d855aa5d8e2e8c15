-- The positions of compared fields, and how those that differ are told.
use Rattle.std.specs.Prelude.{ℕ, ◌+◌, ◌==◌, if◌then◌else◌, List, [], ◌∷◌, ◌++◌, codes, decimal, map, Some, None, Option}
use Rattle.std.specs.List.{concat}

-- the name at each position, counted from 1
abbrev pub name_of : ℕ → Option (List ℕ)
name_of n =
    if n == 1 then Some (codes "side")
    else if n == 2 then Some (codes "product id")
    else if n == 3 then Some (codes "underlying type")
    else if n == 4 then Some (codes "underlying id")
    else if n == 5 then Some (codes "notional currency 1")
    else if n == 6 then Some (codes "notional currency 2")
    else if n == 7 then Some (codes "venue")
    else if n == 8 then Some (codes "compression")
    else if n == 9 then Some (codes "price")
    else if n == 10 then Some (codes "price notation")
    else if n == 11 then Some (codes "price currency")
    else if n == 12 then Some (codes "notional")
    else if n == 13 then Some (codes "execution timestamp")
    else if n == 14 then Some (codes "clearing timestamp")
    else if n == 15 then Some (codes "exchange rate 1")
    else None

abbrev pub named : Option (List ℕ) → List ℕ
named None = []
named (Some name) = codes " " ++ name

-- a position by its number, and by its name where it has one
unfoldable pub position_text : ℕ → List ℕ
position_text n = decimal n ++ named (name_of n)

-- the positions of the findings that differ, by their numbers, where the first of these findings stands at a position
abbrev pub differing_from : ℕ → List ℕ → List ℕ
differing_from n [] = []
differing_from n (number ∷ numbers) = if number == 1 then n ∷ differing_from (n + 1) numbers else differing_from (n + 1) numbers

-- positions behind others
abbrev pub more_positions : List ℕ → List ℕ
more_positions ns = concat (map (λ n. codes ", " ++ position_text n) ns) ++ codes ")"

-- positions in parentheses; nothing where there are none
abbrev pub positions_text : List ℕ → List ℕ
positions_text [] = []
positions_text (n ∷ ns) = codes " (" ++ (position_text n ++ more_positions ns)

abbrev pub differing_text : List ℕ → List ℕ
differing_text numbers = positions_text (differing_from 1 numbers)
