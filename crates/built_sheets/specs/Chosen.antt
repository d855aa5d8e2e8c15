-- What a chosen sheet means.
use Rattle.sheets.specs.Sheets.{Meaning}
use Rattle.built_sheets.specs.Kdpw.{kdpw}
use Rattle.built_sheets.specs.Tabled.{tabled}
use Rattle.built_sheets.specs.declared.chosen.ChosenSheet.{ChosenSheet}
use Rattle.built_sheets.specs.declared.chosen.ChosenSheet.TheVariants.{Kdpw, Tabled}

abbrev pub chosen : ChosenSheet → Meaning
chosen (Kdpw sheet) = kdpw
chosen (Tabled sheet) = tabled sheet
