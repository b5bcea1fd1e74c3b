-- Joining variables, row by row.
use Rattle.std.proofs.Common.{◌≡◌, ℕ, ◌+◌, ◌<◌, eqb, List, length, sym, refl, ap, ◌∙◌, subst, inl, inr, arith, below_more}
use Rattle.std.proofs.lemmas.Bool.{cases_eq, eq-eqb, ne_eqb, cond-true, cond-false, cond_both}
use Rattle.domain.specs.declared.predicate.Row.{Row}
use Rattle.marks.specs.Rows.{nth_row, Ready}
use Rattle.marks.specs.Joins.{root_of, Rooted, Joined, renamed}

module _ (rows : List Row) where
  -- each variable is its own root
  pub joined_none : (roots : List ℕ) → length roots ≡ 512 → ((v : ℕ) → v < 512 → root_of roots v ≡ v) → Joined rows 0 roots
  joined_none roots size alone = record {
    size = size;
    listed = λ v l. let e = alone v l in omega arith;
    rooted = λ f _ v l. ap f (sym (alone v l));
    merged = λ i l. absurd (omega arith);
  }

  module _ (n : ℕ) (roots : List ℕ) (j : Joined rows n roots) where
    pub joined_skip : ((nth_row rows n).predicate.form ≡ 3 → ⊥) → Joined rows (n + 1) roots
    joined_skip other = record {
      size = j.size;
      listed = j.listed;
      rooted = λ f eq. j.rooted f (λ i l. eq i (omega arith));
      merged = below_more _ n j.merged (λ e. absurd (other e));
    }

    module _ (after : List ℕ) (ready : Ready rows) (l : n < length rows) (form : (nth_row rows n).predicate.form ≡ 3) where
      from : ℕ
      from = root_of roots (nth_row rows n).first

      to : ℕ
      to = root_of roots (nth_row rows n).second

      second_listed : (i : ℕ) → i < length rows → (nth_row rows i).predicate.form ≡ 3 → (nth_row rows i).second < 512
      second_listed i li e = (ready i li).second (λ k. omega arith) (λ k. omega arith)

      pub joined_more :
          length after ≡ 512 → ((v : ℕ) → v < 512 → root_of after v ≡ renamed (root_of roots (nth_row rows n).first) (root_of roots (nth_row rows n).second) (root_of roots v))
          → Joined rows (n + 1) after
      unfolding from to
      joined_more size re = record {
        size = size;
        listed = λ v lv. subst (λ r. r < 512) (sym (re v lv))
            (cond_both (eqb (root_of roots v) from) to (root_of roots v) (λ r. r < 512) (λ _. j.listed _ (second_listed n l form)) (λ _. j.listed v lv));
        rooted = λ f eq. go f (j.rooted f (λ i li. eq i (omega arith))) (eq n (omega arith) form);
        merged = below_more _ n
            (λ i li e. re _ (ready i (omega arith)).first ∙ ap (renamed from to) (j.merged i li e) ∙ sym (re _ (second_listed i (omega arith) e)))
            (λ e. re _ (ready n l).first ∙ cond-true (eqb from from) to from (eq-eqb from from refl) ∙ sym (stays) ∙ sym (re _ (second_listed n l form)));
      }
        where
          stays : renamed from to to ≡ to
          stays = cond_both (eqb to from) to to (λ r. r ≡ to) (λ _. refl) (λ _. refl)

          go : (f : ℕ → ℕ) → Rooted roots f → f (nth_row rows n).first ≡ f (nth_row rows n).second → Rooted after f
          go f rooted same v lv =
              elim (cases_eq (root_of roots v) from) [
                | inl e ↦ rooted v lv ∙ ap f e ∙ sym (rooted _ (ready n l).first) ∙ same ∙ rooted _ (second_listed n l form)
                    ∙ ap f (sym (re v lv ∙ cond-true (eqb (root_of roots v) from) to _ (eq-eqb _ _ e)))
                | inr k ↦ rooted v lv ∙ ap f (sym (re v lv ∙ cond-false (eqb (root_of roots v) from) to _ (ne_eqb _ _ k)))
              ]
