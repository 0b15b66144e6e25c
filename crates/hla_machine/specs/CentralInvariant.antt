-- What the central state keeps by itself, whatever the components are: copies, sent events and retractions agree
use Rattle.std.specs.Prelude.{ℕ, ◌≡◌, ◌≤◌, ◌<◌, true, false, Some}
use Rattle.hla_machine.specs.Central.{Central, Copy, Ro, Tso}
use Rattle.hla_machine.specs.Sends.{is_told}

pub record CentralInv (c : Central) : Type 0 where
  pub stamped : (g m f : ℕ) (k : Copy) → c.bag g m f ≡ Some k → (c.sent g m).retractable ≡ true → k.order ≡ Tso → k.stamp ≡ (c.sent g m).stamp
  pub plain : (g m f : ℕ) (k : Copy) → c.bag g m f ≡ Some k → k.order ≡ Ro → k.stamp ≡ 0
  -- the retraction of a retracted copy is under way
  pub followed : (g m f : ℕ) (k : Copy) → c.bag g m f ≡ Some k → (c.sent g m).retracted ≡ true → 1 ≤ c.owed g m f
  pub told : (g m f : ℕ) (k : Copy) → c.bag g m f ≡ Some k → (c.sent g m).retractable ≡ true → is_told c.directory g (c.sent g m) f ≡ true
  pub marked : (g m : ℕ) → (c.sent g m).retracted ≡ true → (c.sent g m).retractable ≡ true
  pub unsent : (g m : ℕ) → c.serial g ≤ m → (c.sent g m).retractable ≡ false
  pub unused : (g m f : ℕ) (k : Copy) → c.bag g m f ≡ Some k → m < c.serial g
