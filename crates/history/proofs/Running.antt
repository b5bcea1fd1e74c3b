-- One call more in a run.
use Rattle.std.proofs.Common.{◌≡◌, ℕ, ◌+◌, ◌-◌, ◌<◌, List, [], ◌∷◌, ◌++◌, length, Some, None, vec_items, Option, sym, refl, ap, ◌∙◌, subst, arith}
use Rattle.std.proofs.lemmas.List.{length_push}
use Rattle.domain.specs.Meaning.{Meaning}
use Rattle.sheet.specs.declared.sheet.Sheet.{Sheet}
use Rattle.sheet.specs.Showing.{view}
use Rattle.sheet.specs.Views.{new_view}
use Rattle.history.specs.declared.call.Call.{Call}
use Rattle.history.specs.declared.call.Answer.{Answer}
use Rattle.history.specs.declared.run.Run.{Run}
use Rattle.history.specs.Histories.{Event, History}
use Rattle.history.specs.Playing.{Purse, answer_to, event_of, then_event, then_purse, history_after, purse_after, AllRight, after_event}
use Rattle.history.specs.Runs.{HasRoom, Performed, Recorded, Sound}
use Rattle.history.specs.Tokens.{numbers}
use Rattle.history.specs.Views.{view_of}
use Rattle.history.proofs.Advance.{stepwise}

history_push : (h : History) (cs : List Call) (xs : List Answer) (c : Call) (a : Answer) → length cs ≡ length xs
    → history_after h (cs ++ (c ∷ [])) (xs ++ (a ∷ [])) ≡ then_event (event_of c a) (history_after h cs xs)
history_push h [] [] c a e = refl
history_push h [] (x ∷ xs) c a e = absurd (omega arith)
history_push h (d ∷ cs) [] c a e = absurd (omega arith)
history_push h (d ∷ cs) (x ∷ xs) c a e = history_push (then_event (event_of d x) h) cs xs c a (omega arith)

purse_push : (p : Purse) (cs : List Call) (xs : List Answer) (c : Call) (a : Answer) → length cs ≡ length xs
    → purse_after p (cs ++ (c ∷ [])) (xs ++ (a ∷ [])) ≡ then_purse (purse_after p cs xs) c a
purse_push p [] [] c a e = refl
purse_push p [] (x ∷ xs) c a e = absurd (omega arith)
purse_push p (d ∷ cs) [] c a e = absurd (omega arith)
purse_push p (d ∷ cs) (x ∷ xs) c a e = purse_push (then_purse p d x) cs xs c a (omega arith)

module _ (m : Meaning) where
  right_push : (h : History) (p : Purse) (cs : List Call) (xs : List Answer) (c : Call) (a : Answer) → length cs ≡ length xs
      → AllRight m h p cs xs → a ≡ answer_to m (view_of m (history_after h cs xs)) (purse_after p cs xs) c
      → AllRight m h p (cs ++ (c ∷ [])) (xs ++ (a ∷ []))
  right_push h p [] [] c a e r s = (s, tt)
  right_push h p [] (x ∷ xs) c a e r s = absurd (omega arith)
  right_push h p (d ∷ cs) [] c a e r s = absurd (omega arith)
  right_push h p (d ∷ cs) (x ∷ xs) c a e r s =
      (r.0, right_push (then_event (event_of d x) h) (then_purse p d x) cs xs c a (omega arith) r.1 s)

  -- what the sheet holds after one event more, or none
  view_then : (o : Option Event) (h : History) → view_of m (then_event o h) ≡ after_event m o (view_of m h)
  view_then None h = refl
  view_then (Some e) h = stepwise m e h

  module _ {D : Type 0} (p : Purse) (cs : List Call) (xs : List Answer) (long : length cs ≡ length xs) (before now : Sheet D) (purse rest : Purse) (c : Call) (a : Answer)
      (right : AllRight m [] p cs xs) (shows : view before ≡ view_of m (history_after [] cs xs)) (tokens : purse ≡ purse_after p cs xs)
      (done : Performed m before purse c now rest a) where
    pub run_right : AllRight m [] p (cs ++ (c ∷ [])) (xs ++ (a ∷ []))
    run_right =
        right_push [] p cs xs c a long right (done.answer ∙ (ap (λ v. answer_to m v purse c) shows ∙ ap (λ q. answer_to m (view_of m (history_after [] cs xs)) q c) tokens))

    pub run_shows : view now ≡ view_of m (history_after [] (cs ++ (c ∷ [])) (xs ++ (a ∷ [])))
    run_shows =
        done.shows
        ∙ (ap (after_event m (event_of c a)) shows
        ∙ (sym (view_then (event_of c a) (history_after [] cs xs)) ∙ sym (ap (view_of m) (history_push [] cs xs c a long))))

    pub run_tokens : rest ≡ purse_after p (cs ++ (c ∷ [])) (xs ++ (a ∷ []))
    run_tokens = done.tokens ∙ (ap (λ q. then_purse q c a) tokens ∙ sym (purse_push p cs xs c a long))

-- a run after the calls cs, of n in all
pub record Underway {D : Type 0} (m : Meaning) (domain : D) (p : Purse) (n : ℕ) (cs : List Call) (run : Run D) : Type 0 where
  pub sound : Sound m p cs run
  pub same : run.sheet.domain ≡ domain
  pub recorded : length cs ≡ length (vec_items run.answers)
  pub room : HasRoom (n - length cs) run

module _ {D : Type 0} (m : Meaning) (n : ℕ) where
  pub started : (run : Run D) → view run.sheet ≡ new_view → vec_items run.answers ≡ [] → HasRoom n run → Underway m run.sheet.domain (numbers (vec_items run.tokens)) n [] run
  started run empty none room =
      let all : n ≡ n - 0 = omega arith in
      record {
        sound = record { right = rw none tt; holds = empty; tokens = refl };
        same = refl;
        recorded = sym (ap length none);
        room = subst (λ k. HasRoom k run) all room;
      }

  module _ (domain : D) (p : Purse) (cs : List Call) (before after : Run D) (c : Call) (u : Underway m domain p n cs before) where
    pub continued : length cs < n → Recorded m before c after → ((k : ℕ) → HasRoom (k + 1) before → HasRoom k after) → Underway m domain p n (cs ++ (c ∷ [])) after
    continued lt r room =
        let a = r.answer in
        let xs = vec_items before.answers in
        let old = numbers (vec_items before.tokens) in
        let new = numbers (vec_items after.tokens) in
        let s = u.sound in
        let size = length_push cs c in
        let left : n - length cs ≡ n - length (cs ++ (c ∷ [])) + 1 = omega arith in
        record {
          sound =
              record {
                right = rw r.last (run_right m p cs xs u.recorded before.sheet after.sheet old new c a s.right s.holds s.tokens r.performed);
                holds = rw r.last (run_shows m p cs xs u.recorded before.sheet after.sheet old new c a s.right s.holds s.tokens r.performed);
                tokens = rw r.last (run_tokens m p cs xs u.recorded before.sheet after.sheet old new c a s.right s.holds s.tokens r.performed);
              };
          same = r.performed.domain ∙ u.same;
          recorded = omega (arith, size, u.recorded, ap length r.last, length_push xs a);
          room = room (n - length (cs ++ (c ∷ []))) (subst (λ k. HasRoom k before) left u.room);
        }

pub finished :
    {D : Type 0} (meaning : D → Meaning) (domain first : D) (p q : Purse) (n : ℕ) (cs all : List Call) (run : Run D)
    → domain ≡ first → p ≡ q → cs ≡ all → Underway (meaning domain) domain p n cs run → Sound (meaning first) q all run
finished meaning domain first p q n cs all run d e f u = let m : meaning domain ≡ meaning first = ap meaning d in rw (← m, ← e, ← f) u.sound
