use Rattle.book_texts.proofs.Plain.{party_as_it_is, party_ascii, trade_as_it_is, trade_ascii}
use Rattle.book_texts.proofs.key.push_key.Goals as goal

pub as_str-trade-requires : goal.as_str-trade-requires
as_str-trade-requires c = trade_ascii c.args.key.now.trade.bytes _ c.args.key.now.trade.rule c.bytes.ensures

pub as_str-reporter-requires : goal.as_str-reporter-requires
as_str-reporter-requires c = party_ascii c.args.key.now.reporter.bytes _ c.args.key.now.reporter.rule c.bytes-2.ensures

pub as_str-other-requires : goal.as_str-other-requires
as_str-other-requires c = party_ascii c.args.key.now.other.bytes _ c.args.key.now.other.rule c.bytes-3.ensures

pub returns-clause-unescaped : goal.returns-clause-unescaped
returns-clause-unescaped c =
    let key = c.args.key.now in
    (trade_as_it_is key.trade.bytes key.trade.rule, (party_as_it_is key.reporter.bytes key.reporter.rule, party_as_it_is key.other.bytes key.other.rule))
