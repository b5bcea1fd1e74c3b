-- A list of calls with the answers that were recorded: the history that it makes, and which answer is right at each point.
use Rattle.std.specs.Prelude.{◌≡◌, ℕ, ◌+◌, List, [], ◌∷◌, ◌++◌, Some, None, Ok, Err, Option, Result, slice_index_or, slice_set}
use Rattle.domain.specs.Meaning.{Meaning}
use Rattle.sheet.specs.declared.refusal.Refusal.{Refusal}
use Rattle.sheet.specs.Views.{View, set_up_refusal, state_refusal, link_refusal, apart_refusal, compared_by, compare_refusal, open_refusal, how_many_close}
use Rattle.history.specs.declared.call.Call.{Call}
use Rattle.history.specs.declared.call.Call.TheVariants.{Open, SetUp, State, Link, Apart, Compare, Keep, Drop}
use Rattle.history.specs.declared.call.Answer.{Answer}
use Rattle.history.specs.declared.call.Answer.TheVariants.{NoToken, Accepted, Refused, Opened, Closed}
use Rattle.history.specs.Histories.{Event, History}
use Rattle.history.specs.Histories.Event.{set_up, state, link, set_apart, compare, open_trial, keep, drop}
use Rattle.history.specs.Views.{view_of, after}

-- the tokens at hand by their numbers; a place whose token was spent is empty
abbrev pub Purse : Type 0
Purse = List (Option ℕ)

abbrev pub accepted_or : Option Refusal → Answer
accepted_or None = Accepted
accepted_or (Some e) = Refused e

abbrev pub opened_or : Option Refusal → ℕ → Answer
opened_or None n = Opened n
opened_or (Some e) n = Refused e

abbrev pub closed_or : Option ℕ → View → Answer
closed_or None v = NoToken
closed_or (Some n) v = Closed n (how_many_close v n)

-- the right answer to a call on a sheet that holds v, with these tokens at hand
abbrev pub answer_to : Meaning → View → Purse → Call → Answer
answer_to m v p Open = opened_or (open_refusal v) (v.opened + 1)
answer_to m v p (SetUp objects kinds) = accepted_or (set_up_refusal m v objects kinds.now)
answer_to m v p (State o table) = accepted_or (state_refusal m v o table.now)
answer_to m v p (Link o r q) = accepted_or (link_refusal v o r q)
answer_to m v p (Apart o q) = accepted_or (apart_refusal v o q)
answer_to m v p (Compare f c a b) =
    accepted_or (compare_refusal m v (compared_by v a.feature f c) a.object a.feature b.object b.feature)
answer_to m v p (Keep i) = closed_or (slice_index_or p i None) v
answer_to m v p (Drop i) = closed_or (slice_index_or p i None) v

-- the refusal that an answer tells
abbrev pub refusal_in : Answer → Option Refusal
refusal_in NoToken = None
refusal_in Accepted = None
refusal_in (Refused e) = Some e
refusal_in (Opened n) = None
refusal_in (Closed n k) = None

abbrev pub opening : Answer → Option Event
opening NoToken = None
opening Accepted = None
opening (Refused e) = Some (open_trial (Err e))
opening (Opened n) = Some (open_trial (Ok n))
opening (Closed n k) = None

abbrev pub closing : (ℕ → ℕ → Event) → Answer → Option Event
closing close NoToken = None
closing close Accepted = None
closing close (Refused e) = None
closing close (Opened n) = None
closing close (Closed n k) = Some (close n k)

-- a call with its answer as an event of the sheet's history; none where nothing was called
abbrev pub event_of : Call → Answer → Option Event
event_of Open a = opening a
event_of (SetUp objects kinds) a = Some (set_up objects kinds.now (refusal_in a))
event_of (State o table) a = Some (state o table.now (refusal_in a))
event_of (Link o r q) a = Some (link o r q (refusal_in a))
event_of (Apart o q) a = Some (set_apart o q (refusal_in a))
event_of (Compare f c x y) a = Some (compare f c x.object x.feature y.object y.feature (refusal_in a))
event_of (Keep i) a = closing keep a
event_of (Drop i) a = closing drop a

abbrev pub then_event : Option Event → History → History
then_event None h = h
then_event (Some e) h = e ∷ h

abbrev pub gained : Purse → Answer → Purse
gained p NoToken = p
gained p Accepted = p
gained p (Refused e) = p
gained p (Opened n) = p ++ (Some n ∷ [])
gained p (Closed n k) = p

-- the tokens at hand after a call
abbrev pub then_purse : Purse → Call → Answer → Purse
then_purse p Open a = gained p a
then_purse p (SetUp objects kinds) a = p
then_purse p (State o table) a = p
then_purse p (Link o r q) a = p
then_purse p (Apart o q) a = p
then_purse p (Compare f c x y) a = p
then_purse p (Keep i) a = slice_set p i None
then_purse p (Drop i) a = slice_set p i None

-- the history that calls with their answers make, after the history h
abbrev pub history_after : History → List Call → List Answer → History
history_after h [] rest = h
history_after h (c ∷ cs) [] = h
history_after h (c ∷ cs) (a ∷ rest) = history_after (then_event (event_of c a) h) cs rest

abbrev pub purse_after : Purse → List Call → List Answer → Purse
purse_after p [] rest = p
purse_after p (c ∷ cs) [] = p
purse_after p (c ∷ cs) (a ∷ rest) = purse_after (then_purse p c a) cs rest

-- there is one answer for each call, and each is the right one after the history of the calls before it
abbrev pub AllRight : Meaning → History → Purse → List Call → List Answer → Type 0
AllRight m h p [] [] = Unit {0}
AllRight m h p [] (a ∷ rest) = ⊥
AllRight m h p (c ∷ cs) [] = ⊥
AllRight m h p (c ∷ cs) (a ∷ rest) = (a ≡ answer_to m (view_of m h) p c) × AllRight m (then_event (event_of c a) h) (then_purse p c a) cs rest

-- what an answered call makes of a sheet
abbrev pub after_event : Meaning → Option Event → View → View
after_event m None v = v
after_event m (Some e) v = after m e v

-- the answer that tells a result
abbrev pub told : {A : Type 0} → Result A Refusal → Answer
told (Ok a) = Accepted
told (Err e) = Refused e
