-- The order of steps.
use Rattle.std.proofs.Common.{◌≡◌, refl, ap, rules}
use Rattle.std.specs.Ordering.{ordering_reverse}
use Rattle.std.specs.Cmp.{IsTotalOrder}
use Rattle.std.proofs.lemmas.Cmp.{nat_list_cmp_total, nat_cmp_total}
use Rattle.std.proofs.lemmas.Map.Lookups.{exact_bytes}
use Rattle.std.specs.declared.cmp.Ordering.TheVariants.{Less, Equal}
use Rattle.cue_lattice.specs.Path.{Step, label, index, step_cmp}

antisymm : (x y : Step) → step_cmp x y ≡ ordering_reverse (step_cmp y x)
antisymm (label l) (label m) = nat_list_cmp_total.antisymm l m
antisymm (label l) (index n) = refl
antisymm (index n) (label l) = refl
antisymm (index m) (index n) = nat_cmp_total.antisymm m n

trans : (x y z : Step) → step_cmp x y ≡ Less → step_cmp y z ≡ Less → step_cmp x z ≡ Less
trans (label l) (label m) (label n) h g = nat_list_cmp_total.trans l m n h g
trans (label l) (label m) (index n) h g = refl
trans (label l) (index m) (index n) h g = refl
trans (index l) (index m) (index n) h g = nat_cmp_total.trans l m n h g
trans (label l) (index m) (label n) h g = cc
trans (index l) (label m) z h g = cc
trans (index l) (index m) (label n) h g = cc

congr : (x y z : Step) → step_cmp x y ≡ Equal → step_cmp x z ≡ step_cmp y z
congr (label l) (label m) (label n) h = nat_list_cmp_total.congr l m n h
congr (label l) (label m) (index n) h = refl
congr (index l) (index m) (index n) h = nat_cmp_total.congr l m n h
congr (index l) (index m) (label n) h = refl
congr (label l) (index m) z h = cc
congr (index l) (label m) z h = cc

-- the order of steps is total
pub step_total : IsTotalOrder step_cmp
step_total = record { antisymm = antisymm; trans = trans; congr = congr }

-- steps that compare as equal are one
pub equal_steps : (x y : Step) → step_cmp x y ≡ Equal → x ≡ y
equal_steps (label l) (label m) h = ap label (exact_bytes l m h)
equal_steps (index m) (index n) h = ap index (search rules)
equal_steps (label l) (index n) h = cc
equal_steps (index m) (label l) h = cc
