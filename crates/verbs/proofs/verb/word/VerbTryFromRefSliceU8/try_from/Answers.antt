use Rattle.std.proofs.Common.{codes, sym, ap, arith, rules}
use Rattle.std.proofs.lemmas.Slice.Eq.{text_from_reads}
use Rattle.verbs.specs.Verbs.{verb_named}
use Rattle.verbs.proofs.verb.word.VerbTryFromRefSliceU8.try_from.Goals as goal

pub returns-in-price : goal.returns-in-price
returns-in-price c = sym (ap verb_named (text_from_reads c.args.word.now (codes "price") (omega arith) (search rules)))

pub returns-in-notional : goal.returns-in-notional
returns-in-notional c = sym (ap verb_named (text_from_reads c.args.word.now (codes "notional") (omega arith) (search rules)))

pub returns-in-day : goal.returns-in-day
returns-in-day c = sym (ap verb_named (text_from_reads c.args.word.now (codes "day") (omega arith) (search rules)))

pub returns-in-slip : goal.returns-in-slip
returns-in-slip c = sym (ap verb_named (text_from_reads c.args.word.now (codes "slip") (omega arith) (search rules)))

pub returns-in-compare : goal.returns-in-compare
returns-in-compare c = sym (ap verb_named (text_from_reads c.args.word.now (codes "compare") (omega arith) (search rules)))

pub returns-in-report : goal.returns-in-report
returns-in-report c = sym (ap verb_named (text_from_reads c.args.word.now (codes "report") (omega arith) (search rules)))

pub returns-in-lookup : goal.returns-in-lookup
returns-in-lookup c = sym (ap verb_named (text_from_reads c.args.word.now (codes "lookup") (omega arith) (search rules)))

pub returns-in-register : goal.returns-in-register
returns-in-register c = sym (ap verb_named (text_from_reads c.args.word.now (codes "register") (omega arith) (search rules)))

pub returns-in-countries : goal.returns-in-countries
returns-in-countries c = sym (ap verb_named (text_from_reads c.args.word.now (codes "countries") (omega arith) (search rules)))
