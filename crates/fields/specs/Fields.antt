-- The letters that each one-letter field may have, and the letter of each case.
use Rattle.std.specs.Prelude.{ℕ, List, codes}
use Rattle.std.specs.Str.{byte}
use Rattle.fields.specs.declared.field.report.PartyKind.{PartyKind}
use Rattle.fields.specs.declared.field.report.PartyKind.TheVariants.{Lei, Client}
use Rattle.fields.specs.declared.field.report.Action.{Action}
use Rattle.fields.specs.declared.field.report.Action.TheVariants.{New, PositionComponent, Modify, Correction, ValuationUpdate, EarlyTermination, Compression, Error}
use Rattle.fields.specs.declared.field.report.Level.{Level}
use Rattle.fields.specs.declared.field.report.Level.TheVariants.{Trade, Position}
use Rattle.fields.specs.declared.field.detail.Side.{Side}
use Rattle.fields.specs.declared.field.detail.Side.TheVariants.{Buyer, Seller}
use Rattle.fields.specs.declared.field.detail.ProductIdKind.{ProductIdKind}
use Rattle.fields.specs.declared.field.detail.ProductIdKind.TheVariants.{Isin, Aii}
use Rattle.fields.specs.declared.field.detail.UnderlyingKind.{UnderlyingKind}
use Rattle.fields.specs.declared.field.detail.UnderlyingKind.TheVariants.{Isin as UnderlyingIsin, Aii as UnderlyingAii, Upi, Basket, Index}
use Rattle.fields.specs.declared.field.detail.Compression.{Compression as CompressionField}
use Rattle.fields.specs.declared.field.detail.Compression.TheVariants.{Compressed, Uncompressed}
use Rattle.fields.specs.declared.field.detail.PriceNotation.{PriceNotation}
use Rattle.fields.specs.declared.field.detail.PriceNotation.TheVariants.{Units, Percentage, Yield}

abbrev pub party_kind_letters : List ℕ
party_kind_letters = codes "LC"

abbrev pub party_kind_letter : PartyKind → ℕ
party_kind_letter Lei = byte "L"
party_kind_letter Client = byte "C"

abbrev pub action_letters : List ℕ
action_letters = codes "NPMRVCZE"

abbrev pub action_letter : Action → ℕ
action_letter New = byte "N"
action_letter PositionComponent = byte "P"
action_letter Modify = byte "M"
action_letter Correction = byte "R"
action_letter ValuationUpdate = byte "V"
action_letter EarlyTermination = byte "C"
action_letter Compression = byte "Z"
action_letter Error = byte "E"

abbrev pub level_letters : List ℕ
level_letters = codes "TP"

abbrev pub level_letter : Level → ℕ
level_letter Trade = byte "T"
level_letter Position = byte "P"

abbrev pub side_letters : List ℕ
side_letters = codes "BS"

abbrev pub side_letter : Side → ℕ
side_letter Buyer = byte "B"
side_letter Seller = byte "S"

abbrev pub product_id_kind_letters : List ℕ
product_id_kind_letters = codes "IA"

abbrev pub product_id_kind_letter : ProductIdKind → ℕ
product_id_kind_letter Isin = byte "I"
product_id_kind_letter Aii = byte "A"

abbrev pub underlying_kind_letters : List ℕ
underlying_kind_letters = codes "IAUBX"

abbrev pub underlying_kind_letter : UnderlyingKind → ℕ
underlying_kind_letter UnderlyingIsin = byte "I"
underlying_kind_letter UnderlyingAii = byte "A"
underlying_kind_letter Upi = byte "U"
underlying_kind_letter Basket = byte "B"
underlying_kind_letter Index = byte "X"

abbrev pub compression_letters : List ℕ
compression_letters = codes "YN"

abbrev pub compression_letter : CompressionField → ℕ
compression_letter Compressed = byte "Y"
compression_letter Uncompressed = byte "N"

abbrev pub price_notation_letters : List ℕ
price_notation_letters = codes "UPY"

abbrev pub price_notation_letter : PriceNotation → ℕ
price_notation_letter Units = byte "U"
price_notation_letter Percentage = byte "P"
price_notation_letter Yield = byte "Y"
