-- `network::bad_pattern` meets its contract: an entry above 1 is found, or none is. Assumes nothing.
use Rattle.std.proofs.Common.{rules, ◌≡◌, ℕ, ◌<◌, ◌≤◌, Bool, true, false, eqb, List, length, arith, sym, ◌∙◌, tests, lt-ltb, le-ltb}
use Rattle.std.specs.Bool.{MatchBool}
use Rattle.std.specs.List.{HoldsAt, AllWithin}
use Rattle.std.proofs.lemmas.Iterator.{cases_from_any, YieldsList-from_slice}
use Rattle.network.specs.Refusal.{lowest, somewhere, bad_entry, bad_pattern}
use Rattle.network.specs.LowestLaws.{somewhere_found}
use Rattle.network.proofs.bad_pattern.Goals as goal

-- what the search for an entry found
found : (p : List ℕ) (b : Bool) → MatchBool b ((k : ℕ) × (k < length p) × HoldsAt (λ x. 1 < x) p k) (AllWithin (λ x. x ≤ 1) p 0 (length p))
    → b ≡ somewhere (lowest (bad_entry p) (length p))
unfolding bad_entry
found p true (k, h, above) = somewhere_found (bad_entry p) (length p) true (k, h, lt-ltb _ _ (above 0))
found p false none = somewhere_found (bad_entry p) (length p) false (λ k h. le-ltb _ _ (none k 0 (omega arith) h))

pub returns : goal.returns
unfolding bad_pattern
returns c =
    let none : eqb (length c.args.pattern.now) 0 ≡ false = sym c.if-is_empty.ensures in
    found c.args.pattern.now c.any.result (cases_from_any _ _ _ (λ x. 1 < x) (λ x. x ≤ 1) c.any.ensures.ran (YieldsList-from_slice c.args.pattern.now cc) (λ x q k. search (rules, tests)) (λ x q k. search (rules, tests)))
    ∙ sym (simp (none, le-ltb _ _ c.if-pattern-gt-MOST_ENTRIES.false))
