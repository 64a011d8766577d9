-- Parts of a chain: what a write to the rows leaves of them, and how they join. Assumes nothing.
use Rattle.std.proofs.Common.{◌≡◌, ℕ, zero, suc, ◌<◌, ◌≢◌, List, [], ◌∷◌, ◌++◌, length, set, Some, None, Option, sym, refl, ap, ◌∙◌, subst, inl, inr, arith}
use Rattle.std.proofs.lemmas.List.{get_or-set_same, get_or-set_other, set_past}
use Rattle.std.proofs.lemmas.Bool.{cases_eq, cases_lt}
use Rattle.ordered.specs.Ascending.{◌∈◌}
use Rattle.duties.specs.declared.duty.Duty.{Duty}
use Rattle.chain.specs.Links.{aimed, aimed_from, begins}
use Rattle.chain.specs.Walk.{row_at, walk, duties_at, Distinct}
use Rattle.chain.specs.declared.link.Link.{Link}

-- all these places are rows
abbrev pub Inside : List Link → List ℕ → Type 0
Inside rows ps = (p : ℕ) → p ∈ ps → p < length rows

-- from the place p through the rows at these places, each of which names the next, to the place t
abbrev pub Leads : List Link → ℕ → List ℕ → ℕ → Type 0
Leads rows p [] t = p ≡ t
Leads rows p (q ∷ qs) t = (p ≡ q) × Leads rows (row_at rows q).next qs t

pub walk_leads : (rows : List Link) (p k : ℕ) → (t : ℕ) × Leads rows p (walk rows p k) t
walk_leads rows p zero = (p, refl)
walk_leads rows p (suc k) = let rest = walk_leads rows (row_at rows p).next k in (rest.0, (refl, rest.1))

walk_along : (rows : List Link) (p t : ℕ) (qs : List ℕ) → Leads rows p qs t → walk rows p (length qs) ≡ qs
walk_along rows p t [] h = refl
walk_along rows p t (q ∷ qs) h =
    ap (λ (r : ℕ). r ∷ walk rows (row_at rows r).next (length qs)) h.0 ∙ ap (λ (l : List ℕ). q ∷ l) (walk_along rows (row_at rows q).next t qs h.1)

pub leads_walk : (rows : List Link) (p t k : ℕ) (qs : List ℕ) → Leads rows p qs t → k ≡ length qs → walk rows p k ≡ qs
leads_walk rows p t k qs h e = ap (walk rows p) e ∙ walk_along rows p t qs h

pub leads_join : (rows : List Link) (p m t : ℕ) (xs ys : List ℕ) → Leads rows p xs m → Leads rows m ys t → Leads rows p (xs ++ ys) t
leads_join rows p m t [] ys h k = subst (λ (q : ℕ). Leads rows q ys t) (sym h) k
leads_join rows p m t (x ∷ xs) ys h k = (h.0, leads_join rows (row_at rows x).next m t xs ys h.1 k)

-- a write beside a part leaves it
pub leads_set : (rows : List Link) (f : ℕ) (row : Link) (p t : ℕ) (qs : List ℕ) → (f ∈ qs → ⊥) → Leads rows p qs t → Leads (set rows f row) p qs t
leads_set rows f row p t [] n h = h
leads_set rows f row p t (q ∷ qs) n h =
    let other : q ≢ f = λ e. n (inl (sym e)) in
    let same : row_at (set rows f row) q ≡ row_at rows q = get_or-set_other rows f q row _ other in
    (h.0, subst (λ (r : Link). Leads (set rows f row) r.next qs t) (sym same) (leads_set rows f row (row_at rows q).next t qs (λ m. n (inr m)) h.1))

pub leads_from : (rows : List Link) (prev : Option ℕ) (to p t : ℕ) (qs : List ℕ) → ((q : ℕ) → prev ≡ Some q → q ∈ qs → ⊥) → Leads rows p qs t → Leads (aimed_from rows prev to) p qs t
leads_from rows None to p t qs n h = h
leads_from rows (Some q) to p t qs n h = leads_set rows q _ p t qs (n q refl) h

-- the last place of a list, or the one before where the list is empty
abbrev pub last_of : Option ℕ → List ℕ → Option ℕ
last_of prev [] = prev
last_of prev (x ∷ xs) = last_of (Some x) xs

last_in : (x p : ℕ) (xs : List ℕ) → last_of (Some x) xs ≡ Some p → p ∈ (x ∷ xs)
last_in x p [] e = let same : p ≡ x = cc in inl same
last_in x p (y ∷ ys) e = inr (last_in y p ys e)

pub last_there : (p : ℕ) (xs : List ℕ) → last_of None xs ≡ Some p → p ∈ xs
last_there p [] e = let z : ◌≡◌ {A = ℕ} 0 1 = cc in absurd (omega arith)
last_there p (x ∷ xs) e = last_in x p xs e

row_from : (rows : List Link) (prev : Option ℕ) (to p : ℕ) → ((q : ℕ) → prev ≡ Some q → p ≢ q) → row_at (aimed_from rows prev to) p ≡ row_at rows p
row_from rows None to p n = refl
row_from rows (Some q) to p n = get_or-set_other rows q p _ _ (n q refl)

begins_later : (x q h : ℕ) (xs : List ℕ) → begins (last_of (Some x) xs) q h ≡ h
begins_later x q h [] = refl
begins_later x q h (y ∷ ys) = begins_later y q h ys

turned_later : (rows : List Link) (p t to x : ℕ) (xs : List ℕ) → Inside rows (x ∷ xs) → Distinct (x ∷ xs) → Leads rows p (x ∷ xs) t → Leads (aimed_from rows (last_of (Some x) xs) to) p (x ∷ xs) to
turned_later rows p t to x [] i d h = (h.0, ap (λ (r : Link). r.next) (get_or-set_same rows x _ _ (i x (inl refl))))
turned_later rows p t to x (y ∷ ys) i d h =
    let rest = turned_later rows (row_at rows x).next t to y ys (λ q m. i q (inr m)) d.1 h.1 in
    let same = row_from rows (last_of (Some y) ys) to x (λ q l e. d.0 (subst (λ (r : ℕ). r ∈ (y ∷ ys)) (sym e) (last_in y q ys l))) in
    (h.0, subst (λ (r : Link). Leads (aimed_from rows (last_of (Some y) ys) to) r.next (y ∷ ys) to) (sym same) rest)

-- a part that leads to one place leads to another once its last row names that one
pub leads_turned : (rows : List Link) (p t to : ℕ) (xs : List ℕ) → Inside rows xs → Distinct xs → Leads rows p xs t → Leads (aimed_from rows (last_of None xs) to) (begins (last_of None xs) to p) xs to
leads_turned rows p t to [] i d h = refl
leads_turned rows p t to (x ∷ xs) i d h =
    subst (λ (q : ℕ). Leads (aimed_from rows (last_of (Some x) xs) to) q (x ∷ xs) to) (sym (begins_later x to p xs)) (turned_later rows p t to x xs i d h)

-- which row a row names says nothing of its duty
pub duty_aimed : (rows : List Link) (p to q : ℕ) → (row_at (aimed rows p to) q).duty ≡ (row_at rows q).duty
duty_aimed rows p to q =
    elim (cases_lt p (length rows)) [
      | inl i ↦ elim (cases_eq q p) [
        | inl e ↦ subst (λ (r : ℕ). (row_at (aimed rows p to) r).duty ≡ (row_at rows r).duty) (sym e) (ap (λ (r : Link). r.duty) (get_or-set_same rows p _ _ i))
        | inr n ↦ ap (λ (r : Link). r.duty) (get_or-set_other rows p q _ _ n)
      ]
      | inr o ↦ ap (λ (l : List Link). (row_at l q).duty) (set_past rows p _ o)
    ]

pub duty_from : (rows : List Link) (prev : Option ℕ) (to q : ℕ) → (row_at (aimed_from rows prev to) q).duty ≡ (row_at rows q).duty
duty_from rows None to q = refl
duty_from rows (Some p) to q = duty_aimed rows p to q

pub duties_same : (rows rows' : List Link) (ps : List ℕ) → ((q : ℕ) → q ∈ ps → (row_at rows' q).duty ≡ (row_at rows q).duty) → duties_at rows' ps ≡ duties_at rows ps
duties_same rows rows' [] h = refl
duties_same rows rows' (p ∷ ps) h =
    ap (λ (e : Duty). e ∷ duties_at rows' ps) (h p (inl refl)) ∙ ap (λ (l : List Duty). (row_at rows p).duty ∷ l) (duties_same rows rows' ps (λ q m. h q (inr m)))
