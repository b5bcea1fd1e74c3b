-- A list that is made line by line.
use Rattle.std.proofs.Common.{◌≡◌, ℕ, ◌+◌, ◌<◌, true, false, List, [], ◌∷◌, ◌++◌, map, length, replicate, Ok, Err, vec_items, Result, sym, refl, ap, ◌∙◌, subst, append_assoc, append-nil}
use Rattle.std.proofs.lemmas.List.Elements.{All-nil, All-head, All-tail, All-push, All-weaker}
use Rattle.std.proofs.lemmas.List.Sums.{fold_push}
use Rattle.std.specs.List.{All}
use Rattle.text.specs.declared.fault.Fault.{Fault}
use Rattle.text.specs.declared.trouble.Trouble.{Trouble}
use Rattle.text.specs.declared.trouble.Trouble.TheVariants.{Misread, Memory}
use Rattle.text.specs.Lines.{lines}
use Rattle.limit_list.specs.declared.fault.Expected.{Expected}
use Rattle.limit_list.specs.declared.list.LimitList.{LimitList}
use Rattle.limit_list.specs.Adding.{Added, Took}
use Rattle.limit_list.specs.Listing.{before, says_all, place, mention, mention_said, names_of, names_in, rows_of, row, row_at, Lists, Read}
use Rattle.limit_list.specs.Spelling.{Said, nothing, limit, reading, difference, reads, placed}
use Rattle.limit_list.proofs.Mentions.{Extends, extends_self, extends_mention, extends_more, known_here}

-- the readings of a limit are among the names
abbrev Known : List (List ℕ) → Said → Type 0
Known ns nothing = Unit {0}
Known ns (limit (reading x) o n) = place ns x < length ns
Known ns (limit (difference x y) o n) = (place ns x < length ns) × (place ns y < length ns)

extends_said : (ns : List (List ℕ)) (s : Said) → Extends ns (mention_said ns s)
extends_said ns nothing = extends_self ns
extends_said ns (limit (reading x) o n) = extends_mention ns x
extends_said ns (limit (difference x y) o n) = extends_more ns (mention ns x) _ (extends_mention ns x) (extends_mention (mention ns x) y)

known_said : (ns : List (List ℕ)) (s : Said) → Known (mention_said ns s) s
known_said ns nothing = tt
known_said ns (limit (reading x) o n) = known_here ns x
known_said ns (limit (difference x y) o n) = ((extends_mention (mention ns x) y x (known_here ns x)).1, known_here (mention ns x) y)

module _ (ns ms : List (List ℕ)) (e : Extends ns ms) where
  known_kept : (s : Said) → Known ns s → Known ms s
  known_kept nothing h = tt
  known_kept (limit (reading x) o n) h = (e x h).1
  known_kept (limit (difference x y) o n) h = ((e x h.0).1, (e y h.1).1)

  rows_kept : (ss : List Said) → All (Known ns) ss → rows_of ms ss ≡ rows_of ns ss
  rows_kept [] h = refl
  rows_kept (nothing ∷ ss) h = rows_kept ss (All-tail (Known ns) nothing ss h)
  rows_kept (limit (reading x) o n ∷ ss) h =
      let here = All-head (Known ns) (limit (reading x) o n) ss h in
      let rest = rows_kept ss (All-tail (Known ns) (limit (reading x) o n) ss h) in
      λ t. row_at false ((e x here).0 t) ((e x here).0 t) o n ∷ rest t
  rows_kept (limit (difference x y) o n ∷ ss) h =
      let here = All-head (Known ns) (limit (difference x y) o n) ss h in
      let rest = rows_kept ss (All-tail (Known ns) (limit (difference x y) o n) ss h) in
      λ t. row_at true ((e x here.0).0 t) ((e y here.1).0 t) o n ∷ rest t

rows_push : (ns : List (List ℕ)) (ss : List Said) (s : Said) → rows_of ns (ss ++ s ∷ []) ≡ rows_of ns ss ++ rows_of ns (s ∷ [])
rows_push ns [] s = refl
rows_push ns (nothing ∷ ss) s = rows_push ns ss s
rows_push ns (limit t o n ∷ ss) s = ap (λ rs. row ns t o n ∷ rs) (rows_push ns ss s)

-- what was said so far, before what is still to be read
abbrev prefixed : List Said → Result (List Said) (Fault Expected) → Result (List Said) (Fault Expected)
prefixed ss (Ok ts) = Ok (ss ++ ts)
prefixed ss (Err f) = Err f

prefixed_more : (ss : List Said) (s : Said) (r : Result (List Said) (Fault Expected)) → prefixed ss (before (Ok s) r) ≡ prefixed (ss ++ s ∷ []) r
prefixed_more ss s (Ok ts) = ap Ok (sym (append_assoc ss (s ∷ []) ts))
prefixed_more ss s (Err f) = refl

-- all lines of the text are listed but for these, which are numbered from n
pub record Sofar (text : List ℕ) (n : ℕ) (rest : List (List ℕ)) (l : LimitList) : Type 0 where
  pub ss : List Said
  pub read : says_all 1 (lines text) ≡ prefixed ss (says_all n rest)
  pub known : All (Known (names_of ss)) ss
  pub lists : Lists ss l

prefixed_none : (r : Result (List Said) (Fault Expected)) → r ≡ prefixed [] r
prefixed_none (Ok ts) = refl
prefixed_none (Err f) = refl

pub none_yet :
    (text : List ℕ) (n : ℕ) (rest : List (List ℕ)) (l : LimitList) → n ≡ 1 → rest ≡ lines text
    → vec_items l.names ≡ [] → vec_items l.kinds ≡ [] → vec_items l.rows ≡ [] → Sofar text n rest l
none_yet text n rest l one all ns ks rs = record {
  ss = [];
  read = prefixed_none (says_all 1 (lines text)) ∙ (λ i. prefixed [] (says_all (sym one i) (sym all i)));
  known = All-nil (Known []);
  lists = record { names = ap (map (λ x. x.now)) ns; kinds = ks; rows = rs };
}

module _ {text : List ℕ} {n : ℕ} {rest : List (List ℕ)} {l : LimitList} (old : Sofar text n rest l) where
  pub all_read : rest ≡ [] → Read text (Ok l)
  all_read h = (old.ss, old.read ∙ ap (λ ls. prefixed old.ss (says_all n ls)) h ∙ ap Ok (append-nil old.ss), old.lists)

  module _ (line : List ℕ) (next : List (List ℕ)) (cut : rest ≡ line ∷ next) where
    next_line : says_all 1 (lines text) ≡ prefixed old.ss (before (placed n line (reads line)) (says_all (n + 1) next))
    next_line = old.read ∙ ap (λ ls. prefixed old.ss (says_all n ls)) cut

    -- a line was refused
    pub refused_line : (new : LimitList) (t : Trouble (Fault Expected)) → Took l n line new (Err t) → Read text (Err t)
    refused_line new (Misread f) h = next_line ∙ ap (λ r. prefixed old.ss (before r (says_all (n + 1) next))) h
    refused_line new Memory h = tt

    one_more : (new : LimitList) (s : Said) → placed n line (reads line) ≡ Ok s → Added l s new → Sofar text (n + 1) next new
    one_more new s e add =
        let ss = old.ss in
        let ns = names_of ss in
        let ms = mention_said ns s in
        let same : names_of (ss ++ s ∷ []) ≡ ms = fold_push mention_said [] ss s in
        let here : names_in new ≡ ms = add.names ∙ ap (λ k. mention_said k s) old.lists.names in
        record {
          ss = ss ++ s ∷ [];
          read = next_line ∙ ap (λ r. prefixed ss (before r (says_all (n + 1) next))) e ∙ prefixed_more ss s (says_all (n + 1) next);
          known = subst (λ k. All (Known k) (ss ++ s ∷ [])) (sym same) (All-push (Known ms) ss s (All-weaker (Known ns) (Known ms) (known_kept ns ms (extends_said ns s)) ss old.known) (known_said ns s));
          lists = record {
            names = here ∙ sym same;
            kinds = add.kinds (old.lists.kinds ∙ ap (λ k. replicate (length k) 0) (sym old.lists.names)) ∙ ap (λ k. replicate (length k) 0) (here ∙ sym same);
            rows =
                add.rows
                ∙ (λ t. (old.lists.rows ∙ sym (rows_kept ns ms (extends_said ns s) ss old.known)) t ++ rows_of (here t) (s ∷ []))
                ∙ sym (rows_push ms ss s)
                ∙ ap (λ k. rows_of k (ss ++ s ∷ [])) (sym same);
          };
        }

    -- a line was taken
    pub taken_line : (m : ℕ) (new : LimitList) → m ≡ n + 1 → Took l n line new (Ok tt) → Sofar text m next new
    taken_line m new e h = subst (λ k. Sofar text k next new) (sym e) (one_more new h.0 h.1 h.2)
