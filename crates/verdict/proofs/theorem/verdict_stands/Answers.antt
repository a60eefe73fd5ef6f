use Rattle.verdict.proofs.theorem.verdict_stands.Goals as goal
use Rattle.verdict.proofs.Sounds

pub returns : goal.returns
returns c =
    record {
      zero = Sounds.one_claim_each;
      eight = Sounds.no_two_claims;
      coded = Sounds.one_code;
      codes = Sounds.codes_say;
      census = Sounds.census_counts;
      covers = Sounds.census_covers;
      files = Sounds.file_phase_says;
    }
