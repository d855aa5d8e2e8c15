-- What holds of every book, whatever reports, closes and lookups it has had.
use Rattle.std.specs.Prelude.{◌≡◌, ◌≢◌, ◌↔◌, ℕ, Bool, true, false, ◌&&◌, ◌||◌, if◌then◌else◌, List, [], ◌∷◌, ◌++◌, Some, None, is_some, is_ok, Option, Ok, Err, filter, ⊤}
use Rattle.std.specs.List.{AllByRecursion}
use Rattle.std.specs.Str.{bytes_eq}
use Rattle.codes.specs.Codes.{text_of}
use Rattle.refusals.specs.Words.{parts_of}
use Rattle.refusals.specs.declared.refusal.Refusal.TheVariants.{BookFull}
use Rattle.sheets.specs.Sheets.{findings_of, state_of}
use Rattle.rows.specs.Days.{due_later}
use Rattle.rows.specs.Entries.{Entry, uncompared}
use Rattle.rows.specs.Keys.{Key, key_in, mirror, same_key}
use Rattle.rows.specs.Standings.{disturbs, enters}
use Rattle.rows.specs.Words.{Shown, state_of_pair, told as told_as}
use Rattle.rows.specs.declared.state.State.TheVariants.{Wait}
use Rattle.rules.specs.Books.{Answer, Book, InOrder, Call, Opening, Slip, accepted, after, answer_to, close, closed, entry_at, lookup, may_close, refused, report, shows, told}
use Rattle.rules.specs.Judging.{Close, Notice, line, ready, shown, stays_paired}

-- ---- each Trade ID by itself

-- the Trade ID of a slip; one that cannot be read counts under an empty one
abbrev pub trade_of : Slip → List ℕ
trade_of (Err refusal) = []
trade_of (Ok r) = text_of r.parties.trade

-- the calls that a Trade ID depends on: its own reports, and every close
abbrev pub concerns : List ℕ → Call → Bool
concerns trade (report s) = bytes_eq (trade_of s) trade
concerns trade (close c) = true
concerns trade (lookup q) = false

-- the same closes, and between them each Trade ID's reports in the same order
abbrev pub SameFor : List Call → List Call → Type 0
SameFor h g = (trade : List ℕ) → filter (concerns trade) h ≡ filter (concerns trade) g

abbrev pub NeverFull : Opening → List Call → Type 0
NeverFull o h = AllByRecursion (λ t. t.1 ≢ refused (parts_of BookFull)) (told o h)

-- the closes and each Trade ID's reports get the same answers, and both books hold the same rows
pub record Agree (o : Opening) (h g : List Call) : Type 0 where
  pub answers : (trade : List ℕ) → filter (λ t. concerns trade t.0) (told o h) ≡ filter (λ t. concerns trade t.0) (told o g)
  pub entries : (after o h).entries ≡ (after o g).entries

-- ---- pairs

-- the last accepted close, with the calls that came before it
abbrev pub last_close : Opening → List Call → Option (Close × List Call)
last_close o [] = None
last_close o (report s ∷ h) = last_close o h
last_close o (lookup q ∷ h) = last_close o h
last_close o (close c ∷ h) = if is_ok (may_close (after o h) c) then Some (c, h) else last_close o h

-- the rows of both sides of a trade, which the last accepted close met, and of which it said nothing that keeps a row from
-- being paired; e and m are those rows as it met them
pub record Pair (o : Opening) (h : List Call) (e m : Entry) : Type 0 where
  pub by : Close
  pub met : List Call
  pub last : last_close o h ≡ Some (by, met)
  pub there : entry_at e.key (after o met).entries ≡ Some e
  pub there_too : entry_at m.key (after o met).entries ≡ Some m
  pub across : m.key ≡ mirror e.key
  pub fits : line by (after o met).day e ≡ ready
  pub fits_too : line by (after o met).day m ≡ ready

-- the row of this key carries what a full comparison of two rows' details comes to
pub record Carries (o : Opening) (h : List Call) (k : Key) (e m : Entry) : Type 0 where
  pub now : Entry
  pub there : entry_at k (after o h).entries ≡ Some now
  pub findings : now.findings ≡ findings_of o.sheet e.tags.details m.tags.details
  pub state : now.state ≡ state_of_pair (state_of o.sheet e.tags.details m.tags.details)

pub record Paired (o : Opening) (h : List Call) (e m : Entry) : Type 0 where
  pub two : e.key ≢ m.key
  -- no row is in two pairs
  pub only : (n : Entry) → Pair o h e n → n ≡ m
  pub one : Carries o h e.key e m
  pub other : Carries o h m.key e m

-- ---- what a close counts: the pairs that it takes up

abbrev pub was_accepted : Answer → Bool
was_accepted (refused refusal) = false
was_accepted accepted = true
was_accepted (closed notices pairs day) = true
was_accepted (shows x) = true

-- a report at this key of any action but V
abbrev pub disturbs_at : Key → Slip → Bool
disturbs_at k (Err refusal) = false
disturbs_at k (Ok r) = same_key k (key_in r.parties) && disturbs r.action

-- whether one was accepted since the last accepted close
abbrev pub disturbed : Opening → Key → List Call → Bool
disturbed o k [] = false
disturbed o k (report s ∷ h) = (was_accepted (answer_to o h (report s)) && disturbs_at k s) || disturbed o k h
disturbed o k (lookup q ∷ h) = disturbed o k h
disturbed o k (close c ∷ h) = if is_ok (may_close (after o h) c) then false else disturbed o k h

-- e and m are the rows now of a pair at the last accepted close, of which neither has accepted any action but V since
pub record OldPair (o : Opening) (h : List Call) (e m : Entry) : Type 0 where
  pub e_then : Entry
  pub m_then : Entry
  pub pair : Pair o h e_then m_then
  pub same : e_then.key ≡ e.key
  pub same_too : m_then.key ≡ m.key
  pub quiet : disturbed o e.key h ≡ false
  pub quiet_too : disturbed o m.key h ≡ false

-- ---- notices

abbrev pub notices_for : Key → List Notice → List Notice
notices_for k notices = filter (λ n. same_key k n.key) notices

abbrev pub notices_in : Answer → List Notice
notices_in (refused refusal) = []
notices_in accepted = []
notices_in (closed notices pairs day) = notices
notices_in (shows x) = []

-- an N or P of this key
abbrev pub enters_at : Key → Slip → Bool
enters_at k (Err refusal) = false
enters_at k (Ok r) = same_key k (key_in r.parties) && is_some (enters r.action)

-- the notices for a key since its entry, the accepted N or P, the newest first
abbrev pub since_entry : Opening → Key → List Call → List Notice
since_entry o k [] = []
since_entry o k (report s ∷ h) = if was_accepted (answer_to o h (report s)) && enters_at k s then [] else since_entry o k h
since_entry o k (lookup q ∷ h) = since_entry o k h
since_entry o k (close c ∷ h) = notices_for k (notices_in (answer_to o h (close c))) ++ since_entry o k h

-- what the newest notice says; WAIT and nothing compared where there is none
abbrev pub newest : List Notice → Shown
newest [] = told_as Wait uncompared
newest (n ∷ ns) = n.says

abbrev pub DiffersFromNext : Notice → List Notice → Type 0
DiffersFromNext n [] = ⊤
DiffersFromNext n (m ∷ ms) = n ≢ m

-- no notice equals the one before it
abbrev pub NoRepeat : List Notice → Type 0
NoRepeat [] = ⊤
NoRepeat (n ∷ ns) = DiffersFromNext n ns × NoRepeat ns

-- ---- the law

abbrev pub entry_in : Opening → List Call → Key → Option Entry
entry_in o h k = entry_at k (after o h).entries

pub record Stands (o : Opening) (h : List Call) : Type 0 where
  -- how the reports of different Trade IDs are mixed between two closes makes no difference
  pub trades : (g : List Call) → SameFor h g → NeverFull o h → NeverFull o g → Agree o h g
  -- a row has one partner at most, and both carry what a full comparison comes to
  pub pairs : (e m : Entry) → Pair o h e m → Paired o h e m
  -- a row shows what the newest notice since its entry says, or WAIT where there is none
  pub shows_newest : (k : Key) (e : Entry) → entry_in o h k ≡ Some e → shown e ≡ newest (since_entry o k h)
  -- no notice says what the one before it for the same entry said
  pub no_repeat : (k : Key) → NoRepeat (since_entry o k h)
  -- the rows ascend by their keys
  pub ascend : InOrder (after o h).entries
  -- a row not yet due waits
  pub waits : (k : Key) (e : Entry) → entry_in o h k ≡ Some e → due_later (after o h).day e.due ≡ true → shown e ≡ told_as Wait uncompared
  -- two mirrored rows are both settled exactly if they are such an old pair: where the next close pairs them, it keeps their
  -- findings, and any other two that it pairs it takes up
  pub old_pairs : (e m : Entry) → entry_in o h e.key ≡ Some e → entry_in o h m.key ≡ Some m → m.key ≡ mirror e.key → (stays_paired e m ≡ true) ↔ OldPair o h e m

abbrev pub BookLaw : Type 0
BookLaw = (o : Opening) (h : List Call) → Stands o h

-- ---- one call

-- what a call after a history answers and leaves, and that the law stands after it
pub record Then (o : Opening) (h : List Call) (c : Call) (a : Answer) (left : Book) : Type 0 where
  pub answers : answer_to o h c ≡ a
  pub leaving : after o (c ∷ h) ≡ left
  pub stands : Stands o (c ∷ h)
