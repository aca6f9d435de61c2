mod VerdictLemmas
