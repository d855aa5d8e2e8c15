-- What a close finds of each row: from what the rows hold before it.
use Rattle.std.specs.Prelude.{ℕ, ◌+◌, Bool, true, false, not, ◌&&◌, if◌then◌else◌, List, Some, None, Option, ◌==◌}
use Rattle.std.specs.List.{find}
use Rattle.std.specs.Option.{option_map}
use Rattle.std.specs.Ordering.{is_lt}
use Rattle.std.specs.Str.{bytes_eq}
use Rattle.codes.specs.Codes.{text_of}
use Rattle.fields.specs.declared.field.report.PartyKind.{PartyKind}
use Rattle.fields.specs.declared.field.report.PartyKind.TheVariants.{Lei, Client}
use Rattle.sheets.specs.Sheets.{Meaning, findings_of, state_by}
use Rattle.sheets.specs.declared.finding.Finding.{Finding}
use Rattle.rows.specs.Days.{due_later}
use Rattle.rows.specs.Entries.{Entry, uncompared}
use Rattle.rows.specs.Keys.{Key, key_order, mirror, same_key}
use Rattle.rows.specs.Words.{Shown, state_of_pair, told}
use Rattle.rows.specs.declared.standing.Standing.{Standing}
use Rattle.rows.specs.declared.standing.Standing.TheVariants.{Active, Ended, Withdrawn}
use Rattle.rows.specs.declared.state.State.{State}
use Rattle.rows.specs.declared.state.State.TheVariants.{Gone, Laps, Npar, Outs}
use Rattle.rules.specs.Lists.{has}

-- what a host hands to a close beside the sheet: who is registered, which countries count, and how many notices have room
pub record Close : Type 0 where
  pub parties : List (List ℕ)
  pub countries : List (List ℕ)
  pub places : ℕ

-- ---- whether a row may be paired

-- what is said of a row; the first case that fits: it is withdrawn, it is not due yet, a party or the country is not
-- registered, its tries are spent, or it may be paired
pub data Line : Type 0 where
  gone early outside lapsed ready : Line

abbrev pub is_withdrawn : Standing → Bool
is_withdrawn Active = false
is_withdrawn Ended = false
is_withdrawn Withdrawn = true

abbrev pub by_lei : PartyKind → Bool
by_lei Lei = true
by_lei Client = false

-- both parties are registered by their LEIs, and the country is listed
unfoldable pub registered : Close → Entry → Bool
registered c e = by_lei e.tags.other_kind && (has c.parties e.key.reporter && (has c.parties e.key.other && has c.countries (text_of e.tags.country)))

unfoldable pub line : Close → ℕ → Entry → Line
line c today e =
    if is_withdrawn e.standing then gone
    else if due_later today e.due then early
    else if not (registered c e) then outside
    else if e.tries == 7 then lapsed
    else ready

-- an entry that may be paired
abbrev pub if_ready : Line → Entry → Option Entry
if_ready gone e = None
if_ready early e = None
if_ready outside e = None
if_ready lapsed e = None
if_ready ready e = Some e

abbrev pub if_found : Close → ℕ → Option Entry → Option Entry
if_found c today None = None
if_found c today (Some e) = if_ready (line c today e) e

-- the other side of a trade, where it may be paired
abbrev pub partner : Close → ℕ → List Entry → Entry → Option Entry
partner c today entries e = if_found c today (find (λ m. same_key (mirror e.key) m.key) entries)

-- ---- what becomes of it

-- both were paired at the last accepted close, and neither has accepted any action but V since
abbrev pub stays_paired : Entry → Entry → Bool
stays_paired e m = e.settled && m.settled

-- the findings of a pair: kept, or found anew
abbrev pub pair_findings : Meaning → Entry → Entry → List Finding
pair_findings sheet e m = if stays_paired e m then e.findings else findings_of sheet e.tags.details m.tags.details

pub record Verdict : Type 0 where
  pub state : State
  pub findings : List Finding
  pub tries : ℕ
  pub paired : Bool

abbrev pub alone : State → ℕ → Verdict
alone state tries = record { state = state; findings = uncompared; tries = tries; paired = false }

abbrev pub paired_with : Meaning → List Finding → Verdict
paired_with sheet findings = record { state = state_of_pair (state_by sheet findings); findings = findings; tries = 0; paired = true }

abbrev pub at_ready : Meaning → Entry → Option Entry → Verdict
at_ready sheet e (Some m) = paired_with sheet (pair_findings sheet e m)
at_ready sheet e None = alone Npar (e.tries + 1)

-- the verdict on an entry; none where its row is freed. One that is not due yet was never paired.
abbrev pub verdict : Meaning → Entry → Option Entry → Line → Option Verdict
verdict sheet e m gone = None
verdict sheet e m early = Some (record { state = e.state; findings = e.findings; tries = e.tries; paired = false })
verdict sheet e m outside = Some (alone Outs e.tries)
verdict sheet e m lapsed = Some (alone Laps e.tries)
verdict sheet e m ready = Some (at_ready sheet e m)

abbrev pub judged : Meaning → Close → ℕ → List Entry → Entry → Option Verdict
judged sheet c today entries e = verdict sheet e (partner c today entries e) (line c today e)

abbrev pub with_verdict : Entry → Verdict → Entry
with_verdict e v = record { key = e.key; tags = e.tags; standing = e.standing; due = e.due; tries = v.tries; state = v.state; findings = v.findings; settled = v.paired }

-- what a close leaves of an entry
abbrev pub entry_after : Meaning → Close → ℕ → List Entry → Entry → Option Entry
entry_after sheet c today entries e = option_map (with_verdict e) (judged sheet c today entries e)

-- ---- notices

pub record Notice : Type 0 where
  pub key : Key
  pub says : Shown

-- what a row shows
abbrev pub shown : Entry → Shown
shown e = told e.state e.findings

abbrev pub same_shown : Shown → Shown → Bool
same_shown a b = bytes_eq a.0 b.0 && bytes_eq a.1 b.1

-- a notice for each row that is freed, and for each whose state or findings change
abbrev pub notice_by : Entry → Option Verdict → Option Notice
notice_by e None = Some (record { key = e.key; says = told Gone uncompared })
notice_by e (Some v) = if same_shown (told v.state v.findings) (shown e) then None else Some (record { key = e.key; says = told v.state v.findings })

abbrev pub notice_of : Meaning → Close → ℕ → List Entry → Entry → Option Notice
notice_of sheet c today entries e = notice_by e (judged sheet c today entries e)

-- ---- pairs taken up

abbrev pub comes_first : Entry → Entry → Bool
comes_first e m = is_lt (key_order e.key m.key)

abbrev pub takes_up_by : Entry → Line → Option Entry → Bool
takes_up_by e gone m = false
takes_up_by e early m = false
takes_up_by e outside m = false
takes_up_by e lapsed m = false
takes_up_by e ready None = false
takes_up_by e ready (Some m) = not (stays_paired e m) && comes_first e m

-- whether a row is the first of a pair that is taken up, so that each such pair counts once
abbrev pub takes_up : Close → ℕ → List Entry → Entry → Bool
takes_up c today entries e = takes_up_by e (line c today e) (partner c today entries e)
