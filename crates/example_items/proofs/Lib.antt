-- Lemmas of the site.
mod ItemLemmas
mod ItemTableLemmas
mod ItemPathLemmas
mod ItemRouteLemmas
mod ItemRefusalLemmas
mod SiteLemmas
mod ConnectionLemmas
mod AnsweredLemmas
