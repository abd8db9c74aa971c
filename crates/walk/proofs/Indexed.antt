-- Either look-up finds the lowest node, as long as the part is kept up, and a part that is kept up is what a fill
-- leaves. Assumes nothing.
use mathlib.Core.Path.{◌≡◌, refl, sym, ap, ◌∙◌}
use mathlib.Core.List.{List, [], ◌∷◌}
use Prim.Native.Nat.{ℕ, suc, ◌<◌}
use native.Mathlib.Omega.{arith}
use lib.ListN.{length, get_or, set}
use lib.Seq.{get_or-set_same, get_or-set_other}
use Rattle.circuit.specs.Codes.{mark}
use Rattle.walk.specs.Lookup.{found, none, lowest_from}
use Rattle.walk.specs.Index.{By, scan, indexed, looked_up, kept_up, kept, filled, inserted, free_of, probed, probe_of}
use Rattle.walk.specs.IndexLaws.{Roomy, NodeFrom, Indexing}
use Rattle.walk.specs.Meaning.{LeadsTo, Leads}
use Rattle.walk.proofs.Lookups.{looks_up}
use Rattle.walk.proofs.Rounds.{place_first, place_next}
use Rattle.walk.proofs.Inserting.{filled_length, filled_cong}
use Rattle.walk.proofs.Probing.{probes, filled_scans}

-- in the part that goes with a table both find the same node, for every fingerprint
pub kept_looks_up : (by : By) (fps old : List ℕ) (count from f : ℕ) → Roomy by count old
    → looked_up by (kept by fps count old) fps count from f ≡ lowest_from fps count from f
kept_looks_up scan fps old count from f h = refl
kept_looks_up indexed fps old count from f h = filled_scans fps (length old) count from f (h refl).0 (h refl).1

-- a node is appended and put in: what a fill of the longer table leaves
pub kept_more : (by : By) (fps old : List ℕ) (count f : ℕ) → count < length fps
    → kept_up by (kept by fps count old) f count ≡ kept by (set fps count f) (suc count) old
unfolding filled
kept_more scan fps old count f h = refl
kept_more indexed fps old count f h =
    ap (λ (i : List ℕ). inserted i f count)
    (filled_cong fps (set fps count f) (length old) count (λ v l. sym (get_or-set_other fps count v f 0 (λ e. absurd (omega arith)))))
    ∙ ap (λ (g : ℕ). inserted (filled (set fps count f) (length old) count) g count) (sym (get_or-set_same fps count f 0 h))

pub kept_length : (by : By) (fps old : List ℕ) (count : ℕ) → length (kept by fps count old) ≡ length old
kept_length scan fps old count = refl
kept_length indexed fps old count = filled_length fps (length old) count

-- whatever the part holds, a node that is found has the fingerprint
pub looked_node : (by : By) (index fps : List ℕ) (count from f v : ℕ) → looked_up by index fps count from f ≡ found v → NodeFrom fps count from f v
looked_node scan index fps count from f v e =
    let w = ((looks_up fps count from f).is_found v).0 e in
    record { not_before = w.not_before; below = w.below; has = w.has }
looked_node indexed index fps count from f v e = (((probes index fps count from f).is_found v).0 e).leads_to

-- what either look-up leads to, said of nodes and of places
pub leads : (by : By) (index fps : List ℕ) (count from f : ℕ) → Leads by index fps count from f
leads scan index fps count from f = let w = looks_up fps count from f in record { is_found = w.is_found; is_none = w.is_none }
leads indexed index fps count from f = let w = probes index fps count from f in record { is_found = w.is_found; is_none = w.is_none }

pub leads_below : (by : By) (index fps : List ℕ) (count from f v : ℕ) → LeadsTo by index fps count from f v → v < count
leads_below by index fps count from f v w = (looked_node by index fps count from f v (((leads by index fps count from f).is_found v).1 w)).below

-- nodes below the count alone decide what a part holds
pub kept_cong : (by : By) (fps gps old : List ℕ) (count : ℕ) → ((v : ℕ) → v < count → get_or fps v 0 ≡ get_or gps v 0) → kept by fps count old ≡ kept by gps count old
kept_cong scan fps gps old count h = refl
kept_cong indexed fps gps old count h = filled_cong fps gps (length old) count h

computed : (kept indexed (7 ∷ 3 ∷ 7 ∷ []) 3 (0 ∷ 0 ∷ 0 ∷ 0 ∷ []) ≡ 1 ∷ 2 ∷ mark ∷ 0 ∷ [])
    × (looked_up indexed (1 ∷ 2 ∷ mark ∷ 0 ∷ []) (7 ∷ 3 ∷ 7 ∷ []) 3 1 7 ≡ found 2)
    × (looked_up indexed (5 ∷ 5 ∷ []) (7 ∷ 3 ∷ []) 2 0 3 ≡ none)
    × (kept_up indexed (5 ∷ 6 ∷ []) 3 1 ≡ 5 ∷ 6 ∷ [])
    × (looked_up indexed (kept indexed (7 ∷ 3 ∷ []) 2 (0 ∷ [])) (7 ∷ 3 ∷ []) 2 0 3 ≡ none)
unfolding filled inserted free_of probed probe_of
computed = (refl, refl, refl, refl, refl)

pub indexing : Indexing
indexing = record {
  begins = λ size f h. sym (place_first size f h);
  onward = λ size f j. sym (place_next size f j);
  enough = λ old h e. (omega arith, h);
  scan_leaves = λ fps old count. refl;
  computed = computed;
  same = kept_looks_up;
  more = kept_more;
  sound = looked_node;
  probe = probes;
}
