-- The verdict says what claims there are.
use Rattle.std.proofs.Common.{◌≡◌, ℕ, suc, ◌+◌, ◌*◌, ◌<◌, ◌≤◌, Bool, true, false, cond, leb, ◌⊎◌, List, [], length, get_or, sym, refl, ap, ◌∙◌, inl, inr, ⊎_elim, arith}
use Rattle.std.proofs.lemmas.Bool.{cases_lt, le-leb, cond-true}
use Rattle.std.proofs.lemmas.Bool.Decides.{nat_tests}
use Rattle.std.proofs.lemmas.List.{length-replicate, nil_from_length}
use Rattle.fault.specs.declared.finding.Finding.{Finding}
use Rattle.disk.specs.Medium.{Sectors}
use Rattle.numbers.proofs.Numbers.{byte_zeros}
use Rattle.format.specs.Layout.{table_width, superblock, slots, depth_of}
use Rattle.format.specs.Inode.{inode_type, known_type}
use Rattle.format.specs.Sizes.{Bounds, inodes_of}
use Rattle.freelist.specs.Stack.{Lists}
use Rattle.freelist.specs.Bytes.{free_list_of}
use Rattle.freelist.specs.Chain.{chain as members}
use Rattle.trees.specs.Trees.{total, count, Absent}
use Rattle.trees.specs.Walk.{Scan as Count, code, Data}
use Rattle.trees.specs.Volume.{claims, file_phase, free_phase, missing}
use Rattle.trees.specs.Laws.{Sound, Blank, phases}
use Rattle.trees.proofs.Sums.{total_same, total_count}
use Rattle.trees.proofs.Files.{filed as files_counted}
use Rattle.trees.proofs.Checks.{free_up, no_finding, codes_said, none_is_missing}
use Rattle.verdict.specs.declared.verdict.Census.{Census}
use Rattle.verdict.specs.Scan.{Log, all, shown, Scan, files, free_list, survey, nothing, report}
use Rattle.verdict.specs.Verdict.{findings_in, blank, files_of, codes_of, verdict_of}
use Rattle.verdict.specs.Sound.{inode_block, head, entry, claims_on, Lawful, OneClaimEach, NoTwoClaims, FilesLawful, Status0SaysOneClaimEach, Status0Or8SaysNoTwoClaims, OneCodeForEachBlock, CodesSayWhoClaims, CensusCountsTheClaims, CensusCoversTheDataBlocks, FilePhaseSaysLawfulFiles}
use Rattle.verdict.proofs.Seen.{found_in, seen, whole, keeps_found, keeps_length, keeps_whole}
use Rattle.verdict.proofs.Inodes.{files_keep, files_seen, files_known}
use Rattle.verdict.proofs.Chains.{free_list_keep, list_walked, list_told, lists_data, lists_some}
use Rattle.verdict.proofs.Bits.{status, status_none, status_missing, zero_clean, eight_clean, zero_full}
use Rattle.verdict.proofs.Surveys.{if_used, if_free, survey_used, survey_free, survey_missing, survey_covers}

pub entry_absent : (S : Sectors) → Absent (entry S)
unfolding entry
entry_absent S k = refl

blank_is : (hi : ℕ) → Blank hi (seen (blank hi))
blank_is hi = record { long = omega (arith, length-replicate {A = ℕ} hi 0); none = λ b. byte_zeros hi b; clean = refl }

whole_found : (l : Log) → whole l ≡ true → length (findings_in l) ≡ found_in l
whole_found (all fs) e = refl
whole_found (shown l n b) e = absurd (let z : ◌≡◌ {A = ℕ} 0 1 = cc in omega arith)

-- a code of claims k of files and l of the list
if_used_is : (c k l : ℕ) → c ≡ k + 2 * l → k + l ≤ 1 → if_used c ≡ k
if_used_is c k l e m = grind (arith, nat_tests)

if_free_is : (c k l : ℕ) → c ≡ k + 2 * l → k + l ≤ 1 → if_free c ≡ l
if_free_is c k l e m = grind (arith, nat_tests)

module _ (S : Sectors) (lo hi : ℕ) (bounds : Bounds lo hi) where
  -- after the files, and after the free list
  abbrev filed : Scan
  filed = files S lo hi 0 (blank hi)

  abbrev end : Scan
  end = free_list S lo hi filed

  abbrev heads : ℕ → ℕ → ℕ
  heads k j = head S (suc k) j

  abbrev counts : List ℕ → Count
  counts L = phases table_width (entry S) depth_of lo hi (inodes_of lo) slots heads L (seen (blank hi))

  pos : 0 < lo
  pos = omega (arith, bounds.low)

  filed_long : hi ≤ length filed.codes
  filed_long = omega (arith, length-replicate {A = ℕ} hi 0, files_keep S lo hi (λ t. length t.codes ≡ length (blank hi).codes) (keeps_length (length (blank hi).codes)) (blank hi) refl)

  end_whole : whole end.log ≡ true
  end_whole = free_list_keep lo hi (λ t. whole t.log ≡ true) keeps_whole S filed (files_keep S lo hi (λ t. whole t.log ≡ true) keeps_whole (blank hi) refl)

  end_up : found_in filed.log ≤ found_in end.log
  end_up = free_list_keep lo hi (λ t. found_in filed.log ≤ found_in t.log) (keeps_found (found_in filed.log)) S filed (omega arith)

  -- what the check without a finding says: its list, and the counts
  record Clean (L : List ℕ) : Type 0 where
    known : (i : ℕ) → 0 < i → i ≤ inodes_of lo → known_type (inode_type i (inode_block S i)) ≡ true
    lists : Lists members lo hi S (free_list_of (get_or S superblock [])) L
    same : seen end ≡ counts L
    none : (counts L).found ≡ 0

  -- the list that the free phase walked
  record Ended : Type 0 where
    list : List ℕ
    clean : Clean list

  none_ends : found_in end.log ≡ 0 → Ended
  none_ends e =
      let u = end_up in
      let known = files_known S lo hi (blank hi) (omega arith) in
      let w = list_walked lo hi pos S filed filed_long (omega arith) in
      let s = w.same ∙ ap (free_phase lo hi w.blocks) (files_seen S lo hi known (blank hi)) in
      record { list = w.blocks; clean = record { known = known; lists = w.lists; same = s; none = sym (ap (λ (c : Count). c.found) s) ∙ e } }

  clean_found : (L : List ℕ) → Clean L → found_in end.log ≡ 0
  clean_found L c = ap (λ (c : Count). c.found) c.same ∙ c.none

  claims_is : (b : ℕ) → claims_on S lo b ≡ claims table_width (entry S) depth_of (inodes_of lo) slots heads b
  unfolding claims_on
  claims_is b = refl

  -- claims, where nothing was found
  clean_sound : (L : List ℕ) → Clean L → Sound lo hi table_width (entry S) depth_of (inodes_of lo) slots heads L
  clean_sound L c = ((no_finding table_width (entry S) (entry_absent S) depth_of lo hi (inodes_of lo) slots pos heads L (seen (blank hi)) (blank_is hi)).0 c.none).0

  clean_lawful : (L : List ℕ) → Clean L → Lawful S lo hi L
  clean_lawful L c = record { types = c.known; addresses = λ b q. (clean_sound L c).lawful b (let e = claims_is b in omega arith); list = c.lists }

  clean_most : (L : List ℕ) → Clean L → (b : ℕ) → claims_on S lo b + count L b ≤ 1
  clean_most L c b = let e = claims_is b in omega (arith, (clean_sound L c).once b)

  -- the other way
  lawful_data : (L : List ℕ) → Lawful S lo hi L → (b : ℕ) → 0 < claims_on S lo b + count L b → Data lo hi b
  lawful_data L h b q =
      ⊎_elim (λ (l : 0 < count L b). lists_data lo hi pos S L h.list b l) (λ (l : count L b ≤ 0). h.addresses b (omega arith)) (cases_lt 0 (count L b))

  lawful_clean : (L : List ℕ) → Lawful S lo hi L → ((b : ℕ) → claims_on S lo b + count L b ≤ 1) → Clean L
  lawful_clean L h m = record { known = h.types; lists = h.list; same = told ∙ f; none = none }
    where
      sound : Sound lo hi table_width (entry S) depth_of (inodes_of lo) slots heads L
      sound = record { once = λ b. let e = claims_is b in omega (arith, m b); lawful = λ b q. lawful_data L h b (let e = claims_is b in omega arith) }

      none : (counts L).found ≡ 0
      none = (no_finding table_width (entry S) (entry_absent S) depth_of lo hi (inodes_of lo) slots pos heads L (seen (blank hi)) (blank_is hi)).1 (sound, lists_some lo hi pos S L h.list)

      f : free_phase lo hi L (seen filed) ≡ counts L
      f = ap (free_phase lo hi L) (files_seen S lo hi h.types (blank hi))

      clean : (free_phase lo hi L (seen filed)).found ≡ found_in filed.log
      clean = let e = ap (λ (c : Count). c.found) f in let u = free_up lo hi L (seen filed) in omega (arith, none)

      told : seen end ≡ free_phase lo hi L (seen filed)
      told = list_told lo hi pos S L filed filed_long h.list clean

  -- MISSING
  abbrev census : Census
  census = survey hi end.codes lo nothing

  census_missing : (L : List ℕ) → Clean L → census.missing ≡ missing lo hi (counts L)
  census_missing L c = survey_missing end.codes (found_in end.log) lo hi (omega (arith, bounds.order)) ∙ ap (missing lo hi) c.same

  clean_one : (L : List ℕ) → Clean L → census.missing ≡ 0 → (b : ℕ) → Data lo hi b → claims_on S lo b + count L b ≡ 1
  clean_one L c e b d =
      let full = (none_is_missing table_width (entry S) (entry_absent S) depth_of lo hi (inodes_of lo) slots pos heads L (seen (blank hi)) (blank_is hi) c.none).0 (sym (census_missing L c) ∙ e) in
      let i = claims_is b in
      omega (arith, full b d, clean_most L c b)

  one_none : (L : List ℕ) → Clean L → ((b : ℕ) → Data lo hi b → claims_on S lo b + count L b ≡ 1) → census.missing ≡ 0
  one_none L c h =
      census_missing L c
      ∙ (none_is_missing table_width (entry S) (entry_absent S) depth_of lo hi (inodes_of lo) slots pos heads L (seen (blank hi)) (blank_is hi) c.none).1
      (λ b d. let i = claims_is b in omega (arith, h b d))

  -- STATUS
  status_is : (room : ℕ) → (verdict_of S lo hi room).status ≡ status (findings_in end.log) census room
  unfolding report
  status_is room = refl

  clean_nil : found_in end.log ≡ 0 → findings_in end.log ≡ []
  clean_nil e = nil_from_length (findings_in end.log) (whole_found end.log end_whole ∙ e)

  status_clean : (room : ℕ) → found_in end.log ≡ 0 → (verdict_of S lo hi room).status ≡ status [] census room
  status_clean room e = status_is room ∙ ap (λ (fs : List Finding). status fs census room) (clean_nil e)

  one_most : (L : List ℕ) → Lawful S lo hi L → ((b : ℕ) → Data lo hi b → claims_on S lo b + count L b ≡ 1) → (b : ℕ) → claims_on S lo b + count L b ≤ 1
  one_most L h o b =
      ⊎_elim (λ (l : 0 < claims_on S lo b + count L b). omega (arith, o b (lawful_data L h b l))) (λ (l : claims_on S lo b + count L b ≤ 0). omega arith) (cases_lt 0 (claims_on S lo b + count L b))

  status_0_one : (room : ℕ) → (verdict_of S lo hi room).status ≡ 0 → OneClaimEach S lo hi
  status_0_one room e =
      let s = sym (status_is room) ∙ e in
      let r = none_ends (sym (whole_found end.log end_whole) ∙ zero_clean (findings_in end.log) census room s) in
      record { free = r.list; lawful = clean_lawful r.list r.clean; one = clean_one r.list r.clean (zero_full (findings_in end.log) census room s) }

  one_status_0 : (room : ℕ) → OneClaimEach S lo hi → (verdict_of S lo hi room).status ≡ 0
  one_status_0 room h =
      let c = lawful_clean h.free h.lawful (one_most h.free h.lawful h.one) in
      status_clean room (clean_found h.free c) ∙ status_none census room (one_none h.free c h.one)

  ended_two : Ended → NoTwoClaims S lo hi
  ended_two r = record { free = r.list; lawful = clean_lawful r.list r.clean; most = clean_most r.list r.clean }

  status_8_two : (room : ℕ) → ((verdict_of S lo hi room).status ≡ 0) ⊎ ((verdict_of S lo hi room).status ≡ 8) → NoTwoClaims S lo hi
  status_8_two room h =
      ⊎_elim
      (λ (e : (verdict_of S lo hi room).status ≡ 0). ended_two (none_ends (sym (whole_found end.log end_whole) ∙ zero_clean (findings_in end.log) census room (sym (status_is room) ∙ e))))
      (λ (e : (verdict_of S lo hi room).status ≡ 8). ended_two (none_ends (sym (whole_found end.log end_whole) ∙ eight_clean (findings_in end.log) census room (sym (status_is room) ∙ e))))
      h

  two_status_8 : (room : ℕ) → NoTwoClaims S lo hi → ((verdict_of S lo hi room).status ≡ 0) ⊎ ((verdict_of S lo hi room).status ≡ 8)
  two_status_8 room h =
      let c = lawful_clean h.free h.lawful h.most in
      let s = status_clean room (clean_found h.free c) in
      ⊎_elim (λ (l : 0 < census.missing). inr (s ∙ status_missing census room l)) (λ (l : census.missing ≤ 0). inl (s ∙ status_none census room (omega arith))) (cases_lt 0 census.missing)

  -- CODES AND CENSUS
  clean_codes : (L : List ℕ) → Clean L → (b : ℕ) → get_or end.codes b 0 ≡ claims_on S lo b + 2 * count L b
  clean_codes L c b =
      let e : get_or end.codes b 0 ≡ code (counts L) b = ap (λ (c : Count). code c b) c.same in
      let f = codes_said table_width (entry S) (entry_absent S) depth_of lo hi (inodes_of lo) slots pos heads L (seen (blank hi)) (blank_is hi) c.none b in
      omega (arith, claims_is b)

  in_data : (b k n : ℕ) → (0 < n → Data lo hi b) → k ≡ n → cond (leb lo b) k 0 ≡ n
  in_data b k n d e =
      ⊎_elim (λ (l : 0 < n). cond-true (leb lo b) k 0 (le-leb lo b (d l).0) ∙ e) (λ (l : n ≤ 0). nought (leb lo b) (omega arith)) (cases_lt 0 n)
    where
      nought : (x : Bool) → n ≡ 0 → cond x k 0 ≡ n
      nought true z = e
      nought false z = sym z

  census_used : (L : List ℕ) → Clean L → census.used ≡ total hi (claims_on S lo)
  census_used L c =
      survey_used end.codes lo hi (omega (arith, bounds.order))
      ∙ total_same hi _ _ (λ b l. in_data b (if_used (get_or end.codes b 0)) (claims_on S lo b) (λ q. (clean_lawful L c).addresses b q)
      (if_used_is (get_or end.codes b 0) (claims_on S lo b) (count L b) (clean_codes L c b) (clean_most L c b)))

  census_free : (L : List ℕ) → Clean L → census.free ≡ length L
  census_free L c =
      survey_free end.codes lo hi (omega (arith, bounds.order))
      ∙ total_same hi _ _ (λ b l. in_data b (if_free (get_or end.codes b 0)) (count L b) (λ q. lists_data lo hi pos S L c.lists b q)
      (if_free_is (get_or end.codes b 0) (claims_on S lo b) (count L b) (clean_codes L c b) (clean_most L c b)))
      ∙ total_count hi L (λ b q. (lists_data lo hi pos S L c.lists b q).1) (lists_some lo hi pos S L c.lists)

  two_clean : (h : NoTwoClaims S lo hi) → Clean h.free
  two_clean h = lawful_clean h.free h.lawful h.most

  two_codes : (h : NoTwoClaims S lo hi) (b : ℕ) → get_or (codes_of S lo hi) b 0 ≡ claims_on S lo b + 2 * count h.free b
  unfolding report
  two_codes h b = clean_codes h.free (two_clean h) b

  two_census : (room : ℕ) (h : NoTwoClaims S lo hi)
      → ((verdict_of S lo hi room).census.used ≡ total hi (claims_on S lo)) × ((verdict_of S lo hi room).census.free ≡ length h.free) × ((verdict_of S lo hi room).findings ≡ 0)
  unfolding report
  two_census room h =
      let c = two_clean h in
      (census_used h.free c, census_free h.free c, whole_found end.log end_whole ∙ clean_found h.free c)

  covers : (room : ℕ) → lo + (verdict_of S lo hi room).census.used + (verdict_of S lo hi room).census.free + (verdict_of S lo hi room).census.missing ≡ hi
  unfolding report
  covers room = survey_covers end.codes lo hi (omega (arith, bounds.order))

  -- FILES ALONE
  filed_whole : whole filed.log ≡ true
  filed_whole = files_keep S lo hi (λ t. whole t.log ≡ true) keeps_whole (blank hi) refl

  abbrev file_counts : Count
  file_counts = file_phase table_width (entry S) depth_of lo hi (inodes_of lo) slots heads (seen (blank hi))

  clean_files : findings_in filed.log ≡ [] → FilesLawful S lo hi
  clean_files e =
      let n : found_in filed.log ≡ 0 = sym (whole_found filed.log filed_whole) ∙ ap length e in
      let known = files_known S lo hi (blank hi) n in
      let f : file_counts.found ≡ 0 = sym (ap (λ (c : Count). c.found) (files_seen S lo hi known (blank hi))) ∙ n in
      let r = (files_counted table_width (entry S) (entry_absent S) depth_of lo hi (inodes_of lo) slots heads (seen (blank hi)) (blank_is hi).long (blank_is hi).none).0.0 f in
      record { types = known; addresses = λ b q. r.0 b (let i = claims_is b in omega arith); most = λ b. let i = claims_is b in omega (arith, r.1 b) }

  lawful_counts : FilesLawful S lo hi → file_counts.found ≡ 0
  lawful_counts h =
      (files_counted table_width (entry S) (entry_absent S) depth_of lo hi (inodes_of lo) slots heads (seen (blank hi)) (blank_is hi).long (blank_is hi).none).0.1
      ((λ b q. h.addresses b (let i = claims_is b in omega arith)), λ b. let i = claims_is b in omega (arith, h.most b))

  files_clean : FilesLawful S lo hi → findings_in filed.log ≡ []
  files_clean h = nil_from_length (findings_in filed.log) (whole_found filed.log filed_whole ∙ ap (λ (c : Count). c.found) (files_seen S lo hi h.types (blank hi)) ∙ lawful_counts h)

  files_codes : FilesLawful S lo hi → (b : ℕ) → get_or filed.codes b 0 ≡ claims_on S lo b
  files_codes h b =
      ap (λ (c : Count). code c b) (files_seen S lo hi h.types (blank hi))
      ∙ (files_counted table_width (entry S) (entry_absent S) depth_of lo hi (inodes_of lo) slots heads (seen (blank hi)) (blank_is hi).long (blank_is hi).none).1 (lawful_counts h) b
      ∙ sym (claims_is b)

filed_length : (S : Sectors) (lo hi : ℕ) → length (files_of S lo hi).codes ≡ hi
filed_length S lo hi = files_keep S lo hi (λ t. length t.codes ≡ hi) (keeps_length hi) (blank hi) (length-replicate {A = ℕ} hi 0)

pub one_code : OneCodeForEachBlock
unfolding report
one_code S lo hi = free_list_keep lo hi (λ t. length t.codes ≡ hi) (keeps_length hi) S (files_of S lo hi) (filed_length S lo hi)

pub codes_say : CodesSayWhoClaims
codes_say S lo hi b h = two_codes S lo hi b h

pub census_counts : CensusCountsTheClaims
census_counts S lo hi room b h = two_census S lo hi b room h

pub census_covers : CensusCoversTheDataBlocks
census_covers S lo hi room b = covers S lo hi b room

pub file_phase_says : FilePhaseSaysLawfulFiles
file_phase_says S lo hi b = (clean_files S lo hi b, files_clean S lo hi b, files_codes S lo hi b, filed_length S lo hi)

pub one_claim_each : Status0SaysOneClaimEach
one_claim_each S lo hi room b = (status_0_one S lo hi b room, one_status_0 S lo hi b room)

pub no_two_claims : Status0Or8SaysNoTwoClaims
no_two_claims S lo hi room b = (status_8_two S lo hi b room, two_status_8 S lo hi b room)
