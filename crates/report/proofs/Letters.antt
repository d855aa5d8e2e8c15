-- One-letter fields, each told by its letter and read back from it.
use Rattle.std.proofs.Common.{◌≡◌, [], ◌∷◌, Some, rules}
use Rattle.fields.specs.Fields.{action_letter, action_letters, compression_letter, compression_letters, level_letter, level_letters, party_kind_letter, party_kind_letters, price_notation_letter, price_notation_letters, product_id_kind_letter, product_id_kind_letters, side_letter, side_letters, underlying_kind_letter, underlying_kind_letters}
use Rattle.fields.specs.Letters.{letter_in}
use Rattle.fields.specs.declared.field.report.PartyKind.{PartyKind}
use Rattle.fields.specs.declared.field.report.Action.{Action}
use Rattle.fields.specs.declared.field.report.Level.{Level}
use Rattle.fields.specs.declared.field.detail.Side.{Side}
use Rattle.fields.specs.declared.field.detail.ProductIdKind.{ProductIdKind}
use Rattle.fields.specs.declared.field.detail.UnderlyingKind.{UnderlyingKind}
use Rattle.fields.specs.declared.field.detail.Compression.{Compression}
use Rattle.fields.specs.declared.field.detail.PriceNotation.{PriceNotation}

pub one_side : (x y : Side) → side_letter x ≡ side_letter y → x ≡ y
one_side = search rules

pub one_product_id_kind : (x y : ProductIdKind) → product_id_kind_letter x ≡ product_id_kind_letter y → x ≡ y
one_product_id_kind = search rules

pub one_underlying_kind : (x y : UnderlyingKind) → underlying_kind_letter x ≡ underlying_kind_letter y → x ≡ y
one_underlying_kind = search rules

pub one_compression : (x y : Compression) → compression_letter x ≡ compression_letter y → x ≡ y
one_compression = search rules

pub one_price_notation : (x y : PriceNotation) → price_notation_letter x ≡ price_notation_letter y → x ≡ y
one_price_notation = search rules

pub one_level : (x y : Level) → level_letter x ≡ level_letter y → x ≡ y
one_level = search rules

pub one_action : (x y : Action) → action_letter x ≡ action_letter y → x ≡ y
one_action = search rules

pub one_party_kind : (x y : PartyKind) → party_kind_letter x ≡ party_kind_letter y → x ≡ y
one_party_kind = search rules

pub side_back : (x : Side) → letter_in side_letters (side_letter x ∷ []) ≡ Some (side_letter x)
side_back = search rules

pub product_id_kind_back : (x : ProductIdKind) → letter_in product_id_kind_letters (product_id_kind_letter x ∷ []) ≡ Some (product_id_kind_letter x)
product_id_kind_back = search rules

pub underlying_kind_back : (x : UnderlyingKind) → letter_in underlying_kind_letters (underlying_kind_letter x ∷ []) ≡ Some (underlying_kind_letter x)
underlying_kind_back = search rules

pub compression_back : (x : Compression) → letter_in compression_letters (compression_letter x ∷ []) ≡ Some (compression_letter x)
compression_back = search rules

pub price_notation_back : (x : PriceNotation) → letter_in price_notation_letters (price_notation_letter x ∷ []) ≡ Some (price_notation_letter x)
price_notation_back = search rules

pub level_back : (x : Level) → letter_in level_letters (level_letter x ∷ []) ≡ Some (level_letter x)
level_back = search rules

pub action_back : (x : Action) → letter_in action_letters (action_letter x ∷ []) ≡ Some (action_letter x)
action_back = search rules

pub party_kind_back : (x : PartyKind) → letter_in party_kind_letters (party_kind_letter x ∷ []) ≡ Some (party_kind_letter x)
party_kind_back = search rules
