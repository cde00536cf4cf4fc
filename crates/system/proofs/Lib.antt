mod Paths
