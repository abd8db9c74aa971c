-- One candidate, and the loops over candidates: what each candidate keeps the loops keep, they only append, a saturated
-- state stays, and each candidate is dealt with. Assumes nothing.
use mathlib.Core.Path.{◌≡◌, refl, sym, ap, ◌∙◌, subst}
use mathlib.Core.Logic.{◌⊎◌, inl, inr, ⊎_elim}
use mathlib.Core.Bool.{Bool, true, false, not, ◌||◌}
use mathlib.Core.List.{List, [], ◌∷◌, ◌++◌, Memᴰ}
use Prim.Native.Nat.{ℕ, zero, suc, ◌+◌, ◌≤◌, ◌<◌}
use native.Mathlib.Nat.{le_refl}
use native.Mathlib.Omega.{arith}
use borrow.Author.Tests.{ltb-true, ltb-false, not-true, not-false}
use lib.Dec.{ltb}
use lib.ListN.{length}
use lib.Seq.{get_or-append_seam}
use Rattle.exact.proofs.Values.{pick_ind}
use Rattle.walk.specs.Walk.{Rules, Node, State, any, root, list_at, prod, pruned, knows, candidate, skipped, child, try, try_all, layer}
use Rattle.walk.proofs.Grown.{Prefix}
use Rattle.walk.proofs.Sequences.{or-false, or_cases, lt_or, any_true, any_at, length_snoc, prefix_refl, prefix_snoc, prefix_trans, prefix_at, prefix_length}

-- t is what s has become: nodes were appended, and a saturated state is saturated still
pub record Later (s t : State) : Type 0 where
  pub prefix : Prefix s.nodes t.nodes
  pub stays : s.saturated ≡ true → t.saturated ≡ true

later_refl : (s : State) → Later s s
later_refl s = record { prefix = prefix_refl s.nodes; stays = λ e. e }

later_trans : {s t u : State} → Later s t → Later t u → Later s u
later_trans p q = record { prefix = prefix_trans p.prefix q.prefix; stays = λ e. q.stays (p.stays e) }

abbrev pub filled : State → State
filled s = record { nodes = s.nodes; saturated = true }

module _ (R : Rules) where
  -- ---- why a candidate is skipped, and what is known of one that is not

  abbrev Why : List Node → ℕ → ℕ → Type 0
  Why ns k g =
      (pruned R g (list_at ns k) ≡ true) ⊎ (R.fits g (prod R (list_at ns k)) ≡ false) ⊎ (any (knows R (candidate R ns k g)) ns ≡ true)

  skipped_why : (ns : List Node) (k g : ℕ) → skipped R ns k g ≡ true → Why ns k g
  unfolding skipped
  skipped_why ns k g e =
      let fit : Bool = R.fits g (prod R (list_at ns k)) in
      let old : Bool = any (knows R (candidate R ns k g)) ns in
      ⊎_elim (λ (a : pruned R g (list_at ns k) ≡ true). inl a)
      (λ (a : not fit || old ≡ true). inr (⊎_elim (λ (b : not fit ≡ true). inl (not-true fit b)) (λ (b : old ≡ true). inr b) (or_cases (not fit) old a)))
      (or_cases (pruned R g (list_at ns k)) (not fit || old) e)

  pub skipped_not : (ns : List Node) (k g : ℕ) → skipped R ns k g ≡ false
      → (pruned R g (list_at ns k) ≡ false) × (R.fits g (prod R (list_at ns k)) ≡ true) × (any (knows R (candidate R ns k g)) ns ≡ false)
  unfolding skipped
  skipped_not ns k g e =
      let fit : Bool = R.fits g (prod R (list_at ns k)) in
      let old : Bool = any (knows R (candidate R ns k g)) ns in
      let a = or-false (pruned R g (list_at ns k)) (not fit || old) e in
      let b = or-false (not fit) old a.1 in
      (a.0, not-false fit b.0, b.1)

  -- ---- by cases: the state is kept, grows by a node, or becomes saturated

  abbrev pub grown_by : State → ℕ → ℕ → State
  grown_by s k g = record { nodes = s.nodes ++ (child R s.nodes k g ∷ []); saturated = false }

  module _ (most : ℕ) where
    pub try_cases : (P : State → Type 0) (s : State) (k g : ℕ) → P s
        → (s.saturated ≡ false → skipped R s.nodes k g ≡ false → length s.nodes < most → P (grown_by s k g))
        → (most ≤ length s.nodes → P (filled s)) → P (try R most s k g)
    unfolding try
    try_cases P s k g keep add fill =
        pick_ind P (s.saturated || skipped R s.nodes k g) (λ e. keep)
        (λ e. let o = or-false s.saturated (skipped R s.nodes k g) e in
        pick_ind P (ltb (length s.nodes) most) (λ l. add o.0 o.1 (ltb-true (length s.nodes) most l)) (λ l. fill (ltb-false (length s.nodes) most l)))

    -- ---- what each candidate keeps, the loops keep

    try_all_keeps : (P : State → Type 0) (k : ℕ) (gs : List ℕ) → ((s : State) (g : ℕ) → Memᴰ g gs → P s → P (try R most s k g))
        → (s : State) → P s → P (try_all R most s k gs)
    unfolding try_all
    try_all_keeps P k [] f s p = p
    try_all_keeps P k (g ∷ gs) f s p = try_all_keeps P k gs (λ t h m q. f t h (Memᴰ.tail m) q) (try R most s k g) (f s g (Memᴰ.head refl) p)

    -- node by node, from number k up to e
    pub layer_keeps : (P : ℕ → State → Type 0) (k m e : ℕ) → k + m ≡ e
        → ((j : ℕ) (s : State) (g : ℕ) → k ≤ j → j < e → Memᴰ g R.generators → P j s → P j (try R most s j g))
        → ((j : ℕ) (s : State) → P j s → P (suc j) s) → (s : State) → P k s → P e (layer R most s k m)
    unfolding layer
    layer_keeps P k zero e q f up s p = subst (λ (j : ℕ). P j s) (omega (arith, q)) p
    layer_keeps P k (suc m) e q f up s p =
        layer_keeps P (suc k) m e (omega arith) (λ j t g a b. f j t g (omega arith) b) up (try_all R most s k R.generators)
        (up k _ (try_all_keeps (P k) k R.generators (λ t g i r. f k t g (le_refl k) (omega arith) i r) s p))

    -- ---- they only append

    pub try_later : (s : State) (k g : ℕ) → Later s (try R most s k g)
    try_later s k g =
        try_cases (λ t. Later s t) s k g (later_refl s)
        (λ a b c. record { prefix = prefix_snoc s.nodes (child R s.nodes k g); stays = λ e. sym a ∙ e })
        (λ a. record { prefix = prefix_refl s.nodes; stays = λ e. refl })

    try_all_later : (s : State) (k : ℕ) (gs : List ℕ) → Later s (try_all R most s k gs)
    try_all_later s k gs = try_all_keeps (λ t. Later s t) k gs (λ t g m p. later_trans p (try_later t k g)) s (later_refl s)

    pub layer_later : (s : State) (k m : ℕ) → Later s (layer R most s k m)
    layer_later s k m = layer_keeps (λ j t. Later s t) k m (k + m) refl (λ j t g a b i p. later_trans p (try_later t j g)) (λ j t p. p) s (later_refl s)

    -- ---- a saturated state stays as it is (SPECIFICATION 6.8)

    pub try_saturated : (s : State) (k g : ℕ) → s.saturated ≡ true → try R most s k g ≡ s
    unfolding try
    try_saturated s k g f = rw f

    pub try_all_saturated : (s : State) (k : ℕ) (gs : List ℕ) → s.saturated ≡ true → try_all R most s k gs ≡ s
    unfolding try_all
    try_all_saturated s k [] f = refl
    try_all_saturated s k (g ∷ gs) f = ap (λ (t : State). try_all R most t k gs) (try_saturated s k g f) ∙ try_all_saturated s k gs f

    pub layer_saturated : (s : State) (k m : ℕ) → s.saturated ≡ true → layer R most s k m ≡ s
    unfolding layer
    layer_saturated s k zero f = refl
    layer_saturated s k (suc m) f =
        ap (λ (t : State). layer R most t (suc k) m) (try_all_saturated s k R.generators f) ∙ layer_saturated s (suc k) m f

  -- ---- each candidate is dealt with

  -- the candidate g after the list p: the state is saturated, or the candidate is pruned, does not fit, or is known
  abbrev pub Dealt : List ℕ → ℕ → State → Type 0
  Dealt p g s =
      (s.saturated ≡ true) ⊎ (pruned R g p ≡ true) ⊎ (R.fits g (prod R p) ≡ false) ⊎ (any (knows R (R.act g (prod R p))) s.nodes ≡ true)

  pub any_prefix : (f : Node → Bool) {ns ms : List Node} → Prefix ns ms → any f ns ≡ true → any f ms ≡ true
  any_prefix f {ns} {ms} p h =
      let r = any_true f root ns h in
      any_at f root ms r.0 (omega (arith, r.1, prefix_length p)) (ap f (prefix_at p r.0 root r.1) ∙ r.2)

  dealt_later : (p : List ℕ) (g : ℕ) {s t : State} → Later s t → Dealt p g s → Dealt p g t
  dealt_later p g l (inl a) = inl (l.stays a)
  dealt_later p g l (inr (inl a)) = inr (inl a)
  dealt_later p g l (inr (inr (inl a))) = inr (inr (inl a))
  dealt_later p g l (inr (inr (inr a))) = inr (inr (inr (any_prefix (knows R (R.act g (prod R p))) l.prefix a)))

  -- where the matrix of each candidate counts as known by itself
  module _ (most : ℕ) (self : (g : ℕ) (l : List ℕ) → R.known (prod R (g ∷ l)) (prod R (g ∷ l)) ≡ true) where
    try_deals : (s : State) (k g : ℕ) → Dealt (list_at s.nodes k) g (try R most s k g)
    unfolding try
    try_deals s k g =
        let ns : List Node = s.nodes in
        let c : Node = child R ns k g in
        let x : R.Mat = candidate R ns k g in
        pick_ind (Dealt (list_at ns k) g) (s.saturated || skipped R ns k g)
        (λ e. ⊎_elim (λ a. inl a) (λ a. inr (skipped_why ns k g a)) (or_cases s.saturated (skipped R ns k g) e))
        (λ e. pick_ind (Dealt (list_at ns k) g) (ltb (length ns) most)
        (λ l. inr (inr (inr (any_at (knows R x) root (ns ++ (c ∷ [])) (length ns) (omega (arith, length_snoc ns c))
        (ap (knows R x) (get_or-append_seam ns c [] root) ∙ self g (list_at ns k))))))
        (λ l. inl refl))

    try_all_deals : (s : State) (k : ℕ) (gs : List ℕ) → k < length s.nodes → (g : ℕ) → Memᴰ g gs
        → Dealt (list_at s.nodes k) g (try_all R most s k gs)
    unfolding try_all
    try_all_deals s k [] l g m = elim m [ ]
    try_all_deals s k (h ∷ gs) l g (Memᴰ.head e) =
        subst (λ (x : ℕ). Dealt (list_at s.nodes k) x (try_all R most (try R most s k h) k gs)) (sym e)
        (dealt_later (list_at s.nodes k) h (try_all_later most (try R most s k h) k gs) (try_deals s k h))
    try_all_deals s k (h ∷ gs) l g (Memᴰ.tail m) =
        let x : Prefix s.nodes (try R most s k h).nodes = (try_later most s k h).prefix in
        subst (λ (n : Node). Dealt n.list g (try_all R most (try R most s k h) k gs)) (prefix_at x k root l)
        (try_all_deals (try R most s k h) k gs (omega (arith, prefix_length x)) g m)

    pub layer_deals : (s : State) (k m : ℕ) → k + m ≤ length s.nodes → (j : ℕ) → k ≤ j → j < k + m → (g : ℕ) → Memᴰ g R.generators
        → Dealt (list_at s.nodes j) g (layer R most s k m)
    unfolding layer
    layer_deals s k zero b j p q g i = absurd (omega arith)
    layer_deals s k (suc m) b j p q g i =
        let t : State = try_all R most s k R.generators in
        let x : Prefix s.nodes t.nodes = (try_all_later most s k R.generators).prefix in
        ⊎_elim
        (λ (a : k < j). subst (λ (z : Node). Dealt z.list g (layer R most t (suc k) m)) (prefix_at x j root (omega arith))
        (layer_deals t (suc k) m (omega (arith, prefix_length x)) j a (omega arith) g i))
        (λ (a : j ≤ k). let e : j ≡ k = omega arith in
        dealt_later (list_at s.nodes j) g (layer_later most t (suc k) m)
        (subst (λ (i : ℕ). Dealt (list_at s.nodes i) g t) (sym e) (try_all_deals s k R.generators (omega arith) g i)))
        (lt_or k j)
