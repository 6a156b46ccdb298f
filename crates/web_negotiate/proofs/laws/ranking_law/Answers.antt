use Rattle.web_negotiate.proofs.RankingLemmas.{permuted, preferred_first, otherwise_preferred}
use Rattle.web_negotiate.proofs.RankedLemmas.{ranking_only}
use Rattle.web_negotiate.specs.MediaChoices.{media_rank}
use Rattle.web_negotiate.specs.Rankings.{quality_rank}
use Rattle.web_headers.specs.declared.accepts.preferences.Preference.TheVariants as preference
use Rattle.web_negotiate.proofs.laws.ranking_law.Goals as goal

pub returns : goal.returns
returns c = record {
  media = λ xs ranked r. permuted media_rank xs ranked r;
  languages = λ xs ranked r. permuted quality_rank xs ranked r;
  media_only = λ xs ranked r. ranking_only media_rank xs ranked r;
  languages_only = λ xs ranked r. ranking_only quality_rank xs ranked r;
  first = λ xs ranked given d r p wanted. preferred_first xs ranked preference.Any given d r p wanted;
  any = λ xs given p unwanted. otherwise_preferred xs preference.Any given p unwanted;
}
