-- A code gives its node and its key back, and codes compare as keys first and as nodes among equal keys. Assumes nothing.
use Rattle.std.specs.Prelude.{◌≡◌, refl, true, false, ℕ, suc, ◌+◌, ◌*◌, ◌-◌, ◌/◌, ◌%◌, ◌^◌, ◌<◌, ◌≤◌, ltb, ℤ, pos, negsuc, ◌+ℤ◌, ◌-ℤ◌}
use Rattle.std.proofs.Common.{sym, ap, ◌∙◌, arith}
use Rattle.std.specs.Int.Signed.{mag, lt_z}
use Rattle.network.specs.CaseSplit.{tests}
use Rattle.network.specs.Network.{most_nodes}
use Rattle.network.specs.Shift.{up, low, low_mag, up_lt, sub_cases}
use Rattle.queue.specs.Code.{raise, code, key_in}

-- ---- a raised key
pub up_is : (B : ℕ) (a : ℤ) → low a ≤ B → a +ℤ pos B ≡ pos (up B a)
unfolding up low
up_is B (pos a) h = ap pos (omega arith)
up_is B (negsuc a) h = sub_cases (λ z. z ≡ pos (B - suc a)) B (suc a) (λ k. absurd (omega arith)) (λ k. refl)

pub up_top : (B : ℕ) (a : ℤ) → mag a < B → up B a < B + B
unfolding up
up_top B (pos a) h = omega arith
up_top B (negsuc a) h = omega arith

up_back : (b : ℕ) (a : ℤ) → low a ≤ suc b → pos (up (suc b) a) -ℤ pos (suc b) ≡ a
unfolding up low
up_back b (pos a) h = sub_cases (λ z. z ≡ pos a) (suc b + a) (suc b) (λ k. absurd (omega arith)) (λ k. ap pos (omega arith))
up_back b (negsuc a) h =
    sub_cases (λ z. z ≡ negsuc a) (suc b - suc a) (suc b) (λ k. ap negsuc (omega arith)) (λ k. absurd (omega arith))

-- ---- a code
pub code_is : (k : ℤ) (v : ℕ) → code k v ≡ up raise k * most_nodes + v
unfolding code
code_is k v = refl

module _ (k : ℤ) (v : ℕ) (h : mag k < raise) (w : v < most_nodes) where
  -- it is far below the number that stands for no node
  pub code_small : code k v < 2 ^ 52
  code_small = omega (arith, code_is k v, up_top raise k h)

  pub node_back : code k v % most_nodes ≡ v
  node_back = omega (arith, code_is k v)

  pub key_back : key_in (code k v) ≡ k
  unfolding key_in
  key_back =
      let e : code k v / most_nodes ≡ up raise k = omega (arith, code_is k v) in
      rw e (up_back (raise - 1) k (low_mag raise k h))

module _ (k j : ℤ) (v u : ℕ) (h : mag k < raise) (g : mag j < raise) (w : v < most_nodes) (x : u < most_nodes) where
  -- a lower key has the lower code, whatever the nodes
  pub key_first : lt_z k j ≡ true → code k v < code j u
  key_first e =
      let l : ltb (up raise k) (up raise j) ≡ true = sym (up_lt raise k j (low_mag raise k h) (low_mag raise j g)) ∙ e in
      omega (arith, tests, l, code_is k v, code_is j u)

  -- where the key is no lower, the lower node has the lower code
  pub then_node : lt_z k j ≡ false → u < v → code j u < code k v
  then_node e i =
      let l : ltb (up raise k) (up raise j) ≡ false = sym (up_lt raise k j (low_mag raise k h) (low_mag raise j g)) ∙ e in
      omega (arith, tests, l, code_is k v, code_is j u)
