-- What the reader of a part says of the fronts of the bytes.
use Rattle.std.proofs.Common.{◌≡◌, ℕ, Bool, false, List, ap, subst}
use Rattle.std.specs.Option.{option_map}
use Rattle.cr_syntax.specs.Texts.{Part, part_kind}
use Rattle.cr_lex.specs.declared.texts.PartFault.{PartFault}
use Rattle.cr_lex.specs.declared.texts.PartFault.TheVariants as fault
use Rattle.cr_lex.specs.Longest.{IsLongest}
use Rattle.cr_lex.specs.Texts.{part_form, Scan, Found, Bad, Unended, scan}
use Rattle.cr_lex.specs.Parts.{ScanFails, IsWithin, HasNoPart}
use Rattle.cr_lex.proofs.Scanned.{Fits, Says, scan_says}

pub says_so : (bytes : List ℕ) (s : Scan) → scan false bytes ≡ s → Says false bytes s
says_so bytes s e = subst (λ (r : Scan). Says false bytes r) e (scan_says false bytes)

pub longest_part : (quoted : Bool) (bytes : List ℕ) (part : Part) (n : ℕ) → scan false bytes ≡ Found part n → IsLongest (part_form quoted) bytes n (part_kind quoted part)
longest_part quoted bytes part n e = let fits : Fits false bytes n part = says_so bytes (Found part n) e in record {
  within = fits.within;
  here = ap (option_map (part_kind quoted)) fits.here;
  longest = λ m above within. ap (option_map (part_kind quoted)) (fits.longest m above within);
}

pub no_part : (quoted : Bool) (bytes : List ℕ) (f : PartFault) → ScanFails f (scan false bytes) → IsWithin f bytes → HasNoPart quoted bytes f
no_part quoted bytes (fault.Escape n) e within = (λ m le. ap (option_map (part_kind quoted)) ((says_so bytes (Bad n) e).none m le), e, within)
no_part quoted bytes fault.Unended e within = (λ m le. ap (option_map (part_kind quoted)) ((says_so bytes Unended e).none m le), e, within)
no_part quoted bytes fault.NoMemory e within = tt

pub escape_met : (quoted : Bool) (bytes : List ℕ) (f : PartFault) (n : ℕ) → f ≡ fault.Escape n → HasNoPart quoted bytes f → HasNoPart quoted bytes (fault.Escape n)
escape_met quoted bytes f n e h = subst (λ (g : PartFault). HasNoPart quoted bytes g) e h

pub end_met : (quoted : Bool) (bytes : List ℕ) (f : PartFault) → f ≡ fault.Unended → HasNoPart quoted bytes f → HasNoPart quoted bytes fault.Unended
end_met quoted bytes f e h = subst (λ (g : PartFault). HasNoPart quoted bytes g) e h
